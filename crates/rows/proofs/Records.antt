-- Records one after the other: their length, the record at a place, rows of equal records. Assumes nothing.
use mathlib.Core.Path.{◌≡◌, refl, sym, ap₂}
use mathlib.Core.Bool.{Bool, true, false}
use mathlib.Core.List.{List, ◌++◌, append_assoc}
use Prim.Native.Nat.{ℕ, zero, suc, ◌*◌, ◌<◌}
use native.Mathlib.Nat.{not-suc-le-zero, zero-mul, suc-mul}
use native.Mathlib.Omega.{arith}
use lib.Dec.{eqb}
use lib.ListN.{length, take, drop, length-append}
use lib.Seq.{take_at, drop_at}
use borrow.Author.Tests.{eqb-true, eqb-false}
use Rattle.rows.specs.Count.{rows_to}

pub rows_cong : (f g : ℕ → List ℕ) (k : ℕ) → ((x : ℕ) → x < k → f x ≡ g x) → rows_to f k ≡ rows_to g k
unfolding rows_to
rows_cong f g zero h = refl
rows_cong f g (suc k) h =
    ap₂ (λ (a b : List ℕ). a ++ b) (rows_cong f g k (λ x l. h x (omega arith))) (h k (omega arith))

-- records whose size is known for the first k alone
module _ (f : ℕ → List ℕ) (size : ℕ) where
  pub rows_length_in : (k : ℕ) → ((x : ℕ) → x < k → length (f x) ≡ size) → length (rows_to f k) ≡ k * size
  unfolding rows_to
  rows_length_in zero sized = sym (zero-mul size)
  rows_length_in (suc k) sized =
      omega (arith, length-append (rows_to f k) (f k), rows_length_in k (λ x l. sized x (omega arith)), sized k (omega arith), suc-mul k size)

  -- the record at place x, whatever follows
  pub rows_at_in : (k : ℕ) → ((x : ℕ) → x < k → length (f x) ≡ size) → (r : List ℕ) (x : ℕ) → x < k → take size (drop (x * size) (rows_to f k ++ r)) ≡ f x
  unfolding rows_to
  rows_at_in zero sized r x l = absurd (not-suc-le-zero l)
  rows_at_in (suc k) sized r x l =
      rw (append_assoc (rows_to f k) (f k) r) (go (rows_at_in k (λ x l. sized x (omega arith)) (f k ++ r) x) (eqb x k) refl)
    where
      go :
          (x < k → take size (drop (x * size) (rows_to f k ++ (f k ++ r))) ≡ f x)
          → (b : Bool) → eqb x k ≡ b → take size (drop (x * size) (rows_to f k ++ (f k ++ r))) ≡ f x
      go ih true e =
          rw (eqb-true x k e, drop_at (rows_to f k) (f k ++ r) (k * size) (rows_length_in k (λ x l. sized x (omega arith))))
          (take_at (f k) r size (sized k (omega arith)))
      go ih false e = ih (omega (arith, eqb-false x k e))

  -- the same, where it is known of all
  pub rows_length : ((x : ℕ) → length (f x) ≡ size) → (k : ℕ) → length (rows_to f k) ≡ k * size
  rows_length sized k = rows_length_in k (λ x l. sized x)

  pub rows_at : ((x : ℕ) → length (f x) ≡ size) → (k : ℕ) (r : List ℕ) (x : ℕ) → x < k → take size (drop (x * size) (rows_to f k ++ r)) ≡ f x
  rows_at sized k = rows_at_in k (λ x l. sized x)
