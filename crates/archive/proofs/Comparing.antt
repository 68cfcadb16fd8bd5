-- The loop that compares bytes with a record. Assumes nothing.
use mathlib.Core.Path.{◌≡◌, refl, ap, ◌∙◌}
use mathlib.Core.Bool.{Bool}
use mathlib.Core.List.{List, [], ◌∷◌}
use Prim.Native.Nat.{ℕ, ◌-◌}
use native.Mathlib.Omega.{arith}
use lib.Dec.{eqb}
use Rattle.std.specs.List.{starts_with}
use Rattle.rows.proofs.Put.{rest_of}
use Rattle.std.specs.Cmp.Lexicographic.{pointwise}
use Rattle.std.proofs.lemmas.Bool.Decides.{nat_tests}
use lib.ListN.{length, take, drop}
use Rattle.numbers.specs.Bytes.{number_in}
use Rattle.archive.specs.Parts.{entry_place}
use Rattle.archive.specs.Work.{parent_number}
use Rattle.rows.specs.Lists.{same}

same_by : (own row : List ℕ) → pointwise eqb own row ≡ same row own
unfolding same
same_by [] [] = refl
same_by [] (y ∷ ys) = refl
same_by (x ∷ xs) [] = refl
same_by (x ∷ xs) (y ∷ ys) = rw (same_by xs ys) (grind (arith, nat_tests))

-- whether a record stands in a file from a place on, as the library's method says it
pub starts_same :
    (file own : List ℕ) (at : ℕ) (b : Bool)
    → b ≡ starts_with eqb (take (length file - at) (drop at file)) own
    → b ≡ same (take (length own) (drop at file)) own
starts_same file own at b q = q ∙ (same_by own _ ∙ ap (λ (r : List ℕ). same (take (length own) r) own) (rest_of file at))

-- the parent link that a file holds, as it is read
pub parent_number_lem : (file : List ℕ) (m x place : ℕ) → place ≡ entry_place m x → (v : ℕ) → v ≡ number_in file place 2 → v ≡ parent_number file m x
unfolding parent_number
parent_number_lem file m x place p v q = q ∙ ap (λ k. number_in file k 2) p
