-- Sums and largest values over some of the numbers below k, as one kind of thing: over two kinds that share nothing they are
-- joined, and over one number they are its value. Assumes nothing.
use mathlib.Core.Path.{◌≡◌, refl, ap, ap₂, ◌∙◌}
use mathlib.Core.Bool.{Bool, true, false, ◌||◌}
use Prim.Native.Nat.{ℕ, zero, suc, ◌+◌, ◌<◌, ◌≤◌, max}
use native.Mathlib.Nat.{not-suc-le-zero}
use native.Mathlib.Omega.{arith}
use lib.Dec.{eqb}
use borrow.Author.Tests.{eqb-true, eqb-false, eq-eqb, ne_eqb}
use Rattle.rows.specs.Count.{sum_to, max_to, only_if}
use Rattle.rows.proofs.Tests.{clash}
use Rattle.rows.proofs.Counting.{sum_cong}

pub record Folds (fold : (ℕ → ℕ) → ℕ → ℕ) (join : ℕ → ℕ → ℕ) : Type 0 where
  pub alike : (f g : ℕ → ℕ) (k : ℕ) → ((j : ℕ) → j < k → f j ≡ g j) → fold f k ≡ fold g k
  pub joins :
      (f : ℕ → ℕ) (a b : ℕ → Bool) (k : ℕ)
      → ((j : ℕ) → j < k → a j ≡ true → b j ≡ false)
      → fold (λ j. only_if (a j || b j) (f j)) k
      ≡ join (fold (λ j. only_if (a j) (f j)) k) (fold (λ j. only_if (b j) (f j)) k)
  pub single : (f : ℕ → ℕ) (x k : ℕ) → x < k → fold (λ j. only_if (eqb j x) (f j)) k ≡ f x

only_true : (v : ℕ) → only_if true v ≡ v
unfolding only_if
only_true v = refl

only_false : (v : ℕ) → only_if false v ≡ 0
unfolding only_if
only_false v = refl

only_here : (f : ℕ → ℕ) (j x : ℕ) → j ≡ x → only_if (eqb j x) (f j) ≡ f x
only_here f j x e = rw (eq-eqb j x e) (only_true (f j) ∙ ap f e)

only_else : (f : ℕ → ℕ) (j x : ℕ) → (j ≡ x → ⊥) → only_if (eqb j x) (f j) ≡ 0
only_else f j x n = rw (ne_eqb j x n) (only_false (f j))

sum_or : (a b : Bool) (v : ℕ) → (a ≡ true → b ≡ false) → only_if (a || b) v ≡ only_if a v + only_if b v
unfolding only_if
sum_or true true v h = clash refl (h refl)
sum_or true false v h = omega arith
sum_or false b v h = omega arith

max_or : (a b : Bool) (v : ℕ) → only_if (a || b) v ≡ max (only_if a v) (only_if b v)
unfolding only_if
max_or true true v = omega arith
max_or true false v = omega arith
max_or false b v = omega arith

max_cong : (f g : ℕ → ℕ) (k : ℕ) → ((j : ℕ) → j < k → f j ≡ g j) → max_to f k ≡ max_to g k
unfolding max_to
max_cong f g zero h = refl
max_cong f g (suc k) h = ap₂ max (max_cong f g k (λ j l. h j (omega arith))) (h k (omega arith))

sum-joins :
    (f : ℕ → ℕ) (a b : ℕ → Bool) (k : ℕ)
    → ((j : ℕ) → j < k → a j ≡ true → b j ≡ false)
    → sum_to (λ j. only_if (a j || b j) (f j)) k ≡ sum_to (λ j. only_if (a j) (f j)) k + sum_to (λ j. only_if (b j) (f j)) k
unfolding sum_to
sum-joins f a b zero h = refl
sum-joins f a b (suc k) h =
    omega (arith, sum-joins f a b k (λ j l. h j (omega arith)), sum_or (a k) (b k) (f k) (h k (omega arith)))

max-joins :
    (f : ℕ → ℕ) (a b : ℕ → Bool) (k : ℕ)
    → ((j : ℕ) → j < k → a j ≡ true → b j ≡ false)
    → max_to (λ j. only_if (a j || b j) (f j)) k
    ≡ max (max_to (λ j. only_if (a j) (f j)) k) (max_to (λ j. only_if (b j) (f j)) k)
unfolding max_to
max-joins f a b zero h = omega arith
max-joins f a b (suc k) h =
    omega (arith, max-joins f a b k (λ j l. h j (omega arith)), max_or (a k) (b k) (f k))

sum_empty : (f : ℕ → ℕ) (x k : ℕ) → k ≤ x → sum_to (λ j. only_if (eqb j x) (f j)) k ≡ 0
unfolding sum_to
sum_empty f x zero l = refl
sum_empty f x (suc k) l = omega (arith, sum_empty f x k (omega arith), only_else f k x (λ e. absurd (omega arith)))

max_empty : (f : ℕ → ℕ) (x k : ℕ) → k ≤ x → max_to (λ j. only_if (eqb j x) (f j)) k ≡ 0
unfolding max_to
max_empty f x zero l = refl
max_empty f x (suc k) l = omega (arith, max_empty f x k (omega arith), only_else f k x (λ e. absurd (omega arith)))

sum_single : (f : ℕ → ℕ) (x k : ℕ) → x < k → sum_to (λ j. only_if (eqb j x) (f j)) k ≡ f x
unfolding sum_to
sum_single f x zero l = absurd (not-suc-le-zero l)
sum_single f x (suc k) l = go (sum_single f x k) (eqb k x) refl
  where
    go : (x < k → sum_to (λ j. only_if (eqb j x) (f j)) k ≡ f x) → (b : Bool) → eqb k x ≡ b → sum_to (λ j. only_if (eqb j x) (f j)) (suc k) ≡ f x
    go ih true e =
        let same = eqb-true k x e in
        omega (arith, sum_empty f x k (omega arith), only_here f k x same)
    go ih false e =
        let other = eqb-false k x e in
        omega (arith, ih (omega arith), only_else f k x other)

max_single : (f : ℕ → ℕ) (x k : ℕ) → x < k → max_to (λ j. only_if (eqb j x) (f j)) k ≡ f x
unfolding max_to
max_single f x zero l = absurd (not-suc-le-zero l)
max_single f x (suc k) l = go (max_single f x k) (eqb k x) refl
  where
    go : (x < k → max_to (λ j. only_if (eqb j x) (f j)) k ≡ f x) → (b : Bool) → eqb k x ≡ b → max_to (λ j. only_if (eqb j x) (f j)) (suc k) ≡ f x
    go ih true e =
        let same = eqb-true k x e in
        omega (arith, max_empty f x k (omega arith), only_here f k x same)
    go ih false e =
        let other = eqb-false k x e in
        omega (arith, ih (omega arith), only_else f k x other)

pub sums : Folds sum_to ◌+◌
sums = record { alike = sum_cong; joins = sum-joins; single = sum_single }

pub largest : Folds max_to max
largest = record { alike = max_cong; joins = max-joins; single = max_single }
