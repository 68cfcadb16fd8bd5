-- A row that is filled with one number, and one that from a place on is as it was filled. Assumes nothing.
use mathlib.Core.Path.{◌≡◌, refl, sym, ap, ◌∙◌}
use mathlib.Core.Bool.{Bool, true, false, not, ◌&&◌}
use mathlib.Core.List.{List}
use Prim.Native.Nat.{ℕ, ◌+◌, ◌<◌, ◌≤◌}
use native.Mathlib.Omega.{arith}
use native.Mathlib.Numerals.{add-one}
use lib.Dec.{eqb, leb}
use lib.ListN.{length, get_or, replicate, get_or-eq_default}
use borrow.Author.Tests.{le-leb, leb-true, eq-eqb, ne_eqb}
use Rattle.std.proofs.lemmas.List.{length-replicate, get_or-replicate}
use Rattle.rows.specs.Count.{row_with}
use Rattle.rows.proofs.Best.{none_some, one_some}
use Rattle.rows.proofs.Tests.{lastly}
use Rattle.rows.proofs.Filling.{row_with_lem}
use Rattle.probe_rows.specs.Rest.{is_kept}

-- all of a row is one number
pub filled_with : (v : ℕ) (row now : List ℕ) → now ≡ replicate (length row) v → now ≡ row_with (λ i. v) (length row) row
filled_with v row now e =
    e
    ∙ row_with_lem (λ i. v) (length row) row (replicate (length row) v) (omega arith) (length-replicate (length row) v)
    (λ u l. get_or-replicate (length row) u v 0 l)
    (λ k l. get_or-eq_default (replicate (length row) v) 0 (omega (arith, length-replicate (length row) v)) ∙ sym (get_or-eq_default row 0 l))

-- what the loop keeps: the numbers from a place on and below i are as they were filled
pub record Keeping (mark : ℕ) (row : List ℕ) (from i : ℕ) : Type 0 where
  pub same : (j : ℕ) → j < i → from ≤ j → get_or row j 0 ≡ mark

module _ (mark : ℕ) (row : List ℕ) (from i : ℕ) (s : Keeping mark row from i) where
  pub keep_more : get_or row i 0 ≡ mark → Keeping mark row from (i + 1)
  keep_more e = record { same = rw add-one (lastly (λ j. from ≤ j → get_or row j 0 ≡ mark) i s.same (λ m. e)) }

  pub keep_changed : from ≤ i → i < length row → (get_or row i 0 ≡ mark → ⊥) → false ≡ is_kept mark row from
  unfolding is_kept
  keep_changed m l n =
      sym
      (ap not
      (one_some (λ i. leb from i && not (eqb (get_or row i 0) mark)) (length row) i l
      (rw (le-leb from i m, ne_eqb (get_or row i 0) mark n))))

  pub keep_all : length row ≤ i → true ≡ is_kept mark row from
  unfolding is_kept
  keep_all l = sym (ap not (none_some (λ i. leb from i && not (eqb (get_or row i 0) mark)) (length row) (λ j m. go j m (leb from j) refl)))
    where
      go : (j : ℕ) → j < length row → (b : Bool) → leb from j ≡ b → (leb from j && not (eqb (get_or row j 0) mark)) ≡ false
      go j m true e = rw (e, eq-eqb (get_or row j 0) mark (s.same j (omega arith) (leb-true from j e)))
      go j m false e = rw e

-- the goals of a turn of the loop
pub ruleset keeps = (keep_more, keep_changed)
