-- What lent room is filled with, and what is printed of the room that an answer leaves. Assumes nothing.
use Rattle.std.specs.Prelude.{Bool, true, false, not, ◌&&◌, List, [], ◌∷◌, ℕ, eqb, leb, length, get_or}
use Rattle.rows.specs.Count.{some_to}

-- The number that lent room is filled with.
abbrev pub fill_mark : ℕ
fill_mark = 7

-- The byte that a lent file is filled with.
abbrev pub byte_mark : ℕ
byte_mark = 165

-- Is all of a row from a place on the number that it was filled with?
unfoldable pub is_kept : ℕ → List ℕ → ℕ → Bool
is_kept mark row from = not (some_to (λ i. leb from i && not (eqb (get_or row i 0) mark)) (length row))

-- `rest kept` or `rest changed`, and the end of the line.
unfoldable pub rest_text : Bool → List ℕ
rest_text true = 114 ∷ 101 ∷ 115 ∷ 116 ∷ 32 ∷ 107 ∷ 101 ∷ 112 ∷ 116 ∷ 10 ∷ []
rest_text false = 114 ∷ 101 ∷ 115 ∷ 116 ∷ 32 ∷ 99 ∷ 104 ∷ 97 ∷ 110 ∷ 103 ∷ 101 ∷ 100 ∷ 10 ∷ []
