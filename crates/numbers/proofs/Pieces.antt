-- Numbers in a piece of a row, and read and written again. Assumes nothing.
use mathlib.Core.Path.{◌≡◌, refl, sym}
use mathlib.Core.List.{List}
use Prim.Native.Nat.{ℕ, zero, suc, ◌+◌, ◌*◌, ◌/◌, ◌%◌, ◌<◌, ◌≤◌}
use native.Mathlib.Omega.{arith}
use lib.ListN.{length, get_or, take, drop, length-drop}
use lib.Seq.{take-suc, get_or-take, get_or-drop}
use Rattle.numbers.specs.Bytes.{bytes_of, number_in}

-- a number that is read and written again gives the bytes that stand there
pub number_back : (k : ℕ) (s : List ℕ) (i : ℕ) → ((j : ℕ) → get_or s j 0 < 256) → i + k ≤ length s → bytes_of k (number_in s i k) ≡ take k (drop i s)
unfolding bytes_of number_in
number_back zero s i h l = refl
number_back (suc k) s i h l =
    let n = number_in s i k in
    let b = get_or s (i + k) 0 in
    let high : (n * 256 + b) / 256 ≡ n = omega (arith, h (i + k)) in
    let low : (n * 256 + b) % 256 ≡ b = omega (arith, h (i + k)) in
    rw (high, low, number_back k s i h (omega arith), ← get_or-drop i s k 0)
    (sym (take-suc (drop i s) k 0 (omega (arith, length-drop i s))))

-- a number in a piece is that number in the row
pub number_part : (s : List ℕ) (p k q w : ℕ) → q + w ≤ k → number_in (take k (drop p s)) q w ≡ number_in s (p + q) w
unfolding number_in
number_part s p k q zero h = refl
number_part s p k q (suc w) h =
    let sum : p + (q + w) ≡ p + q + w = omega arith in
    rw (number_part s p k q w (omega arith), get_or-take k (drop p s) (q + w) 0 (omega arith), get_or-drop p s (q + w) 0, sum)
