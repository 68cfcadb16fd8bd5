-- Sums and largest values: bounds, and sums and maxima of equal values. Assumes nothing.
use mathlib.Core.Path.{◌≡◌, refl, sym, ap, ap₂, ◌∙◌}
use mathlib.Core.Bool.{Bool, true, false}
use Prim.Native.Nat.{ℕ, zero, suc, ◌+◌, ◌*◌, ◌<◌, ◌≤◌, max}
use native.Mathlib.Nat.{not-suc-le-zero, suc-mul, zero-mul, add-mul}
use native.Mathlib.Omega.{arith}
use lib.Dec.{eqb, leb}
use borrow.Author.Tests.{eqb-true, eqb-false, leb-true, leb-false}
use Rattle.rows.specs.Count.{sum_to, max_to, some_to, only_if}
use Rattle.rows.proofs.Tests.{lastly}

-- no largest value passes a bound of all values, and none is below one of them
pub max_bound : (f : ℕ → ℕ) (k b : ℕ) → ((j : ℕ) → j < k → f j ≤ b) → max_to f k ≤ b
unfolding max_to
max_bound f zero b h = omega arith
max_bound f (suc k) b h = omega (arith, max_bound f k b (λ j l. h j (omega arith)), h k (omega arith))

pub max-reach : (f : ℕ → ℕ) (k j : ℕ) → j < k → f j ≤ max_to f k
unfolding max_to
max-reach f zero j l = absurd (not-suc-le-zero l)
max-reach f (suc k) j l =
    lastly (λ j. f j ≤ max (max_to f k) (f k)) k (λ i m. omega (arith, max-reach f k i m)) (omega arith) j l

-- a sum of values of which each is at most b
pub sum_bound : (f : ℕ → ℕ) (k b : ℕ) → ((j : ℕ) → j < k → f j ≤ b) → sum_to f k ≤ k * b
unfolding sum_to
sum_bound f zero b h = omega arith
sum_bound f (suc k) b h =
    omega (arith, sum_bound f k b (λ j l. h j (omega arith)), h k (omega arith), suc-mul k b)

-- one place at which the value is 0 is not counted
pub sum_but_one : (f : ℕ → ℕ) (k b z : ℕ) → z < k → f z ≡ 0 → ((j : ℕ) → j < k → f j ≤ b) → sum_to f k + b ≤ k * b
unfolding sum_to
sum_but_one f zero b z l e h = absurd (not-suc-le-zero l)
sum_but_one f (suc k) b z l e h = go (sum_but_one f k b z) (eqb z k) refl
  where
    go : (z < k → f z ≡ 0 → ((j : ℕ) → j < k → f j ≤ b) → sum_to f k + b ≤ k * b) → (c : Bool) → eqb z k ≡ c → sum_to f (suc k) + b ≤ suc k * b
    go ih true q =
        omega (arith, sum_bound f k b (λ j m. h j (omega arith)), ap f (eqb-true z k q), suc-mul k b)
    go ih false q =
        omega (arith, ih (omega (arith, eqb-false z k q)) e (λ j m. h j (omega arith)), h k (omega arith), suc-mul k b)

pub sum_cong : (f g : ℕ → ℕ) (k : ℕ) → ((j : ℕ) → j < k → f j ≡ g j) → sum_to f k ≡ sum_to g k
unfolding sum_to
sum_cong f g zero h = refl
sum_cong f g (suc k) h = ap₂ ◌+◌ (sum_cong f g k (λ j l. h j (omega arith))) (h k (omega arith))

max_cong : (f g : ℕ → ℕ) (k : ℕ) → ((j : ℕ) → j < k → f j ≡ g j) → max_to f k ≡ max_to g k
unfolding max_to
max_cong f g zero h = refl
max_cong f g (suc k) h = ap₂ max (max_cong f g k (λ j l. h j (omega arith))) (h k (omega arith))

pub some_cong : (p q : ℕ → Bool) (k : ℕ) → ((j : ℕ) → j < k → p j ≡ q j) → some_to p k ≡ some_to q k
unfolding some_to
some_cong p q zero h = refl
some_cong p q (suc k) h = rw (some_cong p q k (λ j l. h j (omega arith)), h k (omega arith))

pub only_small : (b : Bool) (v w : ℕ) → (b ≡ true → v ≤ w) → only_if b v ≤ w
unfolding only_if
only_small true v w h = h refl
only_small false v w h = omega arith

-- sums of sums, and of one number
pub sum-add : (f g : ℕ → ℕ) (k : ℕ) → sum_to (λ j. f j + g j) k ≡ sum_to f k + sum_to g k
unfolding sum_to
sum-add f g zero = refl
sum-add f g (suc k) = omega (arith, sum-add f g k)

pub sum_times : (f : ℕ → ℕ) (c k : ℕ) → sum_to (λ j. f j * c) k ≡ sum_to f k * c
unfolding sum_to
sum_times f c zero = sym (zero-mul c)
sum_times f c (suc k) = omega (arith, sum_times f c k, add-mul (sum_to f k) (f k) c)

-- values that add up alike at each place add up alike
pub sum_balance : (f g p q : ℕ → ℕ) (k : ℕ) → ((j : ℕ) → j < k → f j + g j ≡ p j + q j) → sum_to f k + sum_to g k ≡ sum_to p k + sum_to q k
sum_balance f g p q k h = sym (sum-add f g k) ∙ sum_cong (λ j. f j + g j) (λ j. p j + q j) k h ∙ sum-add p q k

-- the largest value is one of them, or 0
max_attained : (f : ℕ → ℕ) (k : ℕ) → 0 < max_to f k → (j : ℕ) × (j < k) × (f j ≡ max_to f k)
unfolding max_to
max_attained f zero h = absurd (not-suc-le-zero h)
max_attained f (suc k) h = go (max_attained f k) (leb (f k) (max_to f k)) refl
  where
    go :
        (0 < max_to f k → (j : ℕ) × (j < k) × (f j ≡ max_to f k))
        → (b : Bool) → leb (f k) (max_to f k) ≡ b → (j : ℕ) × (j < suc k) × (f j ≡ max (max_to f k) (f k))
    go ih true e =
        let less = leb-true (f k) (max_to f k) e in
        let z = ih (omega arith) in
        (z.0, omega (arith, z.1), omega (arith, z.2))
    go ih false e = let more = leb-false (f k) (max_to f k) e in (k, omega arith, omega arith)

pub sum_le : (f g : ℕ → ℕ) (k : ℕ) → ((j : ℕ) → j < k → f j ≤ g j) → sum_to f k ≤ sum_to g k
unfolding sum_to
sum_le f g zero h = omega arith
sum_le f g (suc k) h = omega (arith, sum_le f g k (λ j l. h j (omega arith)), h k (omega arith))

pub sum_less : (f g : ℕ → ℕ) (k j : ℕ) → j < k → f j < g j → ((i : ℕ) → i < k → f i ≤ g i) → sum_to f k < sum_to g k
unfolding sum_to
sum_less f g zero j l m h = absurd (not-suc-le-zero l)
sum_less f g (suc k) j l m h = go (sum_less f g k j) (eqb j k) refl
  where
    go : (j < k → f j < g j → ((i : ℕ) → i < k → f i ≤ g i) → sum_to f k < sum_to g k) → (b : Bool) → eqb j k ≡ b → sum_to f (suc k) < sum_to g (suc k)
    go ih true e = omega (arith, sum_le f g k (λ i n. h i (omega arith)), ap f (eqb-true j k e), ap g (eqb-true j k e))
    go ih false e = omega (arith, ih (omega (arith, eqb-false j k e)) m (λ i n. h i (omega arith)), h k (omega arith))

-- two sums that differ at one place
pub sum_one :
    (f g : ℕ → ℕ) (k v d : ℕ)
    → v < k → f v ≡ g v + d → ((i : ℕ) → i < k → (i ≡ v → ⊥) → f i ≡ g i) → sum_to f k ≡ sum_to g k + d
unfolding sum_to
sum_one f g zero v d l e h = absurd (not-suc-le-zero l)
sum_one f g (suc k) v d l e h = go (sum_one f g k v d) (eqb v k) refl
  where
    go :
        (v < k → f v ≡ g v + d → ((i : ℕ) → i < k → (i ≡ v → ⊥) → f i ≡ g i) → sum_to f k ≡ sum_to g k + d)
        → (b : Bool) → eqb v k ≡ b → sum_to f (suc k) ≡ sum_to g (suc k) + d
    go ih true q =
        let same = eqb-true v k q in
        omega (arith, sum_cong f g k (λ i m. h i (omega arith) (λ z. absurd (omega arith))), ap f same, ap g same)
    go ih false q =
        let other = eqb-false v k q in
        omega (arith, ih (omega arith) e (λ i m n. h i (omega arith) n), h k (omega arith) (λ z. absurd (omega arith)))

-- a sum of ones, and of nothing
pub sum_ones : (f : ℕ → ℕ) (k : ℕ) → ((i : ℕ) → i < k → f i ≡ 1) → sum_to f k ≡ k
unfolding sum_to
sum_ones f zero h = refl
sum_ones f (suc k) h = omega (arith, sum_ones f k (λ i l. h i (omega arith)), h k (omega arith))

pub sum-none : (f : ℕ → ℕ) (k : ℕ) → ((i : ℕ) → i < k → f i ≡ 0) → sum_to f k ≡ 0
unfolding sum_to
sum-none f zero h = refl
sum-none f (suc k) h = omega (arith, sum-none f k (λ i l. h i (omega arith)), h k (omega arith))
