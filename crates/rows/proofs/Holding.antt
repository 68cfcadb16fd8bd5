-- The loop that looks for a number in a row. Assumes nothing.
use mathlib.Core.Path.{◌≡◌, refl, sym, ap, ◌∙◌}
use mathlib.Core.Bool.{true, false}
use mathlib.Core.List.{List}
use Prim.Native.Nat.{ℕ, ◌+◌, ◌<◌, ◌≤◌}
use native.Mathlib.Numerals.{add-one}
use native.Mathlib.Omega.{arith}
use lib.Dec.{eqb}
use lib.ListN.{length, get_or, drop, drop_of_length-le}
use lib.Seq.{drop-cons}
use Rattle.rows.specs.Lists.{has}

-- x is in the row exactly where it is in what is left from i on
pub record Looking (row : List ℕ) (x i : ℕ) : Type 0 where
  pub low : i ≤ length row
  pub left : has x row ≡ has x (drop i row)

module _ (row : List ℕ) (x : ℕ) where
  pub look_start : Looking row x 0
  look_start = record { low = omega arith; left = refl }

  module _ (i : ℕ) (s : Looking row x i) where
    pub look_more : i < length row → eqb (get_or row i 0) x ≡ false → Looking row x (i + 1)
    unfolding has
    look_more l e = record { low = omega arith; left = s.left ∙ rw (drop-cons row i 0 l, e, add-one i) }

    pub look_found : i < length row → eqb (get_or row i 0) x ≡ true → true ≡ has x row
    unfolding has
    look_found l e = sym (s.left ∙ rw (drop-cons row i 0 l, e))

    pub look_none : length row ≤ i → false ≡ has x row
    unfolding has
    look_none l = sym (s.left ∙ ap (has x) (drop_of_length-le row l))
