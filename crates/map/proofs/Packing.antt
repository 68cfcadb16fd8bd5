-- A number made of tests: how the loop builds it from its lowest bit up, how many ones it has, which is the lowest.
-- Assumes nothing.
use mathlib.Core.Path.{◌≡◌, refl, sym, ap}
use mathlib.Core.Bool.{Bool, true, false}
use Prim.Native.Nat.{ℕ, zero, suc, ◌+◌, ◌*◌, ◌/◌, ◌%◌, ◌^◌, ◌<◌, ◌≤◌}
use native.Mathlib.Nat.{pow-suc, pow-succ', not-suc-le-zero, mod-eq_of_lt}
use native.Mathlib.Numerals.{add-one}
use native.Mathlib.Omega.{arith}
use lib.Pow.{pow_mono, pow-lt}
use lib.Count.{ones, ones_cat, count_trailing_zeros}
use Rattle.edition.specs.Limits.{word_bits}
use Rattle.rows.specs.Count.{sum_to, only_if}
use Rattle.rows.proofs.Counting.{sum_cong, only_small}
use Rattle.rows.proofs.Tests.{lastly, not_so}
use Rattle.map.specs.Work.{packed}

only_is : (b : Bool) (v : ℕ) → b ≡ true → only_if b v ≡ v
unfolding only_if
only_is b v e = rw e

pub only_none : (b : Bool) (v : ℕ) → b ≡ false → only_if b v ≡ 0
unfolding only_if
only_none b v e = rw e

pub only_odd : (b : Bool) → only_if b 1 ≤ 1
unfolding only_if
only_odd true = omega arith
only_odd false = omega arith

twice : (b : Bool) (k : ℕ) → only_if b (2 ^ suc k) ≡ 2 * only_if b (2 ^ k)
unfolding only_if
twice true k = pow-succ' 2 k
twice false k = refl

packed_lt : (p : ℕ → Bool) (k : ℕ) → packed p k < 2 ^ k
unfolding packed sum_to
packed_lt p zero = omega arith
packed_lt p (suc k) = omega (arith, packed_lt p k, only_small (p k) (2 ^ k) (2 ^ k) (λ e. omega arith), pow-suc 2 k)

pub packed_cong : (p q : ℕ → Bool) (k : ℕ) → ((j : ℕ) → j < k → p j ≡ q j) → packed p k ≡ packed q k
unfolding packed
packed_cong p q k h = sum_cong _ _ k (λ j l. ap (λ b. only_if b (2 ^ j)) (h j l))

-- the first test is the lowest bit
pub shift : (p : ℕ → Bool) (k : ℕ) → packed p (suc k) ≡ only_if (p 0) 1 + 2 * packed (λ j. p (suc j)) k
unfolding packed sum_to
shift p zero = omega arith
shift p (suc k) = omega (arith, shift p k, twice (p (suc k)) k)

-- a word of the first j tests, and one test more: where it passes, its bit comes on top of the others, and the word has room for it
module _ (p : ℕ → Bool) (j word : ℕ) (s : word ≡ packed p j) (l : j < word_bits) where
  bit_is : 1 * 2 ^ j % 2 ^ 64 ≡ 2 ^ j
  bit_is = let one : 1 * 2 ^ j ≡ 2 ^ j = omega arith in rw one (mod-eq_of_lt (pow-lt l))

  pub bit_room : word + 1 * 2 ^ j % 2 ^ 64 < 2 ^ 64
  bit_room = rw bit_is (omega (arith, s, packed_lt p j, pow-suc 2 j, pow_mono {i = suc j} {j = 64} l))

  pub bit_more : true ≡ p j → word + 1 * 2 ^ j % 2 ^ 64 ≡ packed p (j + 1)
  unfolding packed sum_to
  bit_more e = rw (bit_is, add-one, only_is (p j) (2 ^ j) (sym e), s)

  pub bit_less : false ≡ p j → word ≡ packed p (j + 1)
  unfolding packed sum_to
  bit_less e = rw (add-one, only_none (p j) (2 ^ j) (sym e)) (omega (arith, s))

-- the number of ones
pub ones_packed : (p : ℕ → Bool) (k : ℕ) → ones (packed p k) ≡ sum_to (λ j. only_if (p j) 1) k
unfolding packed sum_to ones
ones_packed p zero = refl
ones_packed p (suc k) = go (ones_packed p k) (p k) refl
  where
    go : ones (packed p k) ≡ sum_to (λ j. only_if (p j) 1) k → (b : Bool) → p k ≡ b → ones (packed p (suc k)) ≡ sum_to (λ j. only_if (p j) 1) (suc k)
    go ih true e =
        let sum : packed p k + 2 ^ k ≡ 1 * 2 ^ k + packed p k = omega arith in
        rw (only_is (p k) (2 ^ k) e, only_is (p k) 1 e, sum, ones_cat k 1 (packed p k) (packed_lt p k)) (omega (arith, ih))
    go ih false e =
        let sum : packed p k + 0 ≡ packed p k = omega arith in
        rw (only_none (p k) (2 ^ k) e, only_none (p k) 1 e, sum) (omega (arith, ih))

-- a number of tests that all fail is 0, and no other is
pub none-packed : (p : ℕ → Bool) (k : ℕ) → ((j : ℕ) → j < k → p j ≡ false) → packed p k ≡ 0
unfolding packed sum_to
none-packed p zero h = refl
none-packed p (suc k) h =
    omega (arith, none-packed p k (λ j l. h j (omega arith)), only_none (p k) (2 ^ k) (h k (omega arith)))

pub packed_none : (p : ℕ → Bool) (k : ℕ) → packed p k ≡ 0 → (j : ℕ) → j < k → p j ≡ false
unfolding packed sum_to
packed_none p zero h j l = absurd (not-suc-le-zero l)
packed_none p (suc k) h j l =
    lastly (λ j. p j ≡ false) k (packed_none p k (omega (arith, h))) (not_so (p k) (λ e. no (omega (arith, h, only_is (p k) (2 ^ k) e)))) j l
  where
    no : 2 ^ k ≡ 0 → ⊥
    no e = absurd (omega (arith, e, packed_lt p k))

-- the lowest one
pub trailing_packed : (j : ℕ) (p : ℕ → Bool) (k : ℕ) → j < k → p j ≡ true → ((i : ℕ) → i < j → p i ≡ false) → count_trailing_zeros k (packed p k) ≡ j
unfolding count_trailing_zeros
trailing_packed zero p zero l h f = absurd (not-suc-le-zero l)
trailing_packed zero p (suc k) l h f =
    let odd : packed p (suc k) % 2 ≡ 1 = omega (arith, shift p k, only_is (p 0) 1 h) in
    rw odd
trailing_packed (suc j) p zero l h f = absurd (not-suc-le-zero l)
trailing_packed (suc j) p (suc k) l h f =
    let low = only_none (p 0) 1 (f 0 (omega arith)) in
    let even : packed p (suc k) % 2 ≡ 0 = omega (arith, shift p k, low) in
    let half : packed p (suc k) / 2 ≡ packed (λ j. p (suc j)) k = omega (arith, shift p k, low) in
    rw (even, half) (ap suc (trailing_packed j (λ j. p (suc j)) k (omega arith) h (λ i m. f (suc i) (omega arith))))
