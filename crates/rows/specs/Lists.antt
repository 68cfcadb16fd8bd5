-- Lists of numbers: what is in one, a list up to one of its numbers, what two share first, which of two comes first. Assumes nothing.
use Rattle.std.specs.Prelude.{Bool, true, false, cond, not, ◌&&◌, ◌||◌, List, [], ◌∷◌, ℕ, ◌+◌, eqb, ltb}
use Rattle.std.specs.Bool.{beq}
use Rattle.edition.specs.Limits.{no_node}

-- Is c in the list?
unfoldable pub has : ℕ → List ℕ → Bool
has c [] = false
has c (u ∷ r) = eqb u c || has c r

-- The list up to its first c, which is left out.
unfoldable pub up_to : ℕ → List ℕ → List ℕ
up_to c [] = []
up_to c (u ∷ r) = let rest = u ∷ up_to c r in cond (eqb u c) [] rest

-- The first of a list that is in the other list, 65,535 where none is.
unfoldable pub first_of : List ℕ → List ℕ → ℕ
first_of other [] = no_node
first_of other (u ∷ r) = let rest = first_of other r in cond (has u other) u rest

-- The sum of f over a list.
unfoldable pub total : (ℕ → ℕ) → List ℕ → ℕ
total f [] = 0
total f (u ∷ r) = f u + total f r

-- Are two lists the same?
unfoldable pub same : List ℕ → List ℕ → Bool
same [] [] = true
same [] (y ∷ ys) = false
same (x ∷ xs) [] = false
same (x ∷ xs) (y ∷ ys) = eqb x y && same xs ys

-- Does a list come before another: has it the lower number where they first differ? One that is the beginning of a longer one comes
-- before it.
unfoldable pub sooner : List ℕ → List ℕ → Bool
sooner [] [] = false
sooner [] (y ∷ ys) = true
sooner (x ∷ xs) [] = false
sooner (x ∷ xs) (y ∷ ys) = ltb x y || (eqb x y && sooner xs ys)

-- Does exactly one of two hold?
abbrev pub differ : Bool → Bool → Bool
differ a b = not (beq a b)
