-- The number in two bytes, as it is read. Assumes nothing.
use mathlib.Core.Path.{◌≡◌, ap}
use mathlib.Core.List.{List}
use Prim.Native.Nat.{ℕ, ◌+◌, ◌*◌, ◌≤◌}
use native.Mathlib.Nat.{add-zero}
use native.Mathlib.Omega.{arith}
use lib.ListN.{length, get_or, get_or-eq_default}
use Rattle.numbers.specs.Bytes.{number_in}

-- a number of two bytes
pub number_two : (s : List ℕ) (i : ℕ) → number_in s i 2 ≡ get_or s i 0 * 256 + get_or s (i + 1) 0
unfolding number_in
number_two s i = omega (arith, ap (λ (j : ℕ). get_or s j 0) (add-zero i))

-- one past the end
pub two_past : (s : List ℕ) (i : ℕ) → length s ≤ i → 0 ≡ number_in s i 2
two_past s i l =
    omega (arith, number_two s i, get_or-eq_default s 0 {n = i} l, get_or-eq_default s 0 {n = i + 1} (omega (arith, l)))
