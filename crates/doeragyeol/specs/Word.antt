-- What a call from C answers: one word, and values at the beginning of a lent row. Assumes nothing.
use Rattle.std.specs.Prelude.{Err, Ok, List, [], ◌∷◌, ◌++◌, ℕ, ◌+◌, ◌*◌, min, ltb, length, drop}
use Rattle.edition.specs.Refusals.{Verdict, number_of, if_taken}
use Rattle.edition.specs.declared.Why.TheVariants.{NoRoom}
use Rattle.rows.specs.First.{refuse_if, firstly}

-- The version of the interface.
abbrev pub version : ℕ
version = 6

-- The largest place that a word holds.
abbrev pub place_most : ℕ
place_most = 65535

-- The word of a verdict: 0, or the refusal's number times 65,536 and its place, a larger one as 65,535.
unfoldable pub word_of : Verdict → ℕ
word_of (Ok _) = 0
word_of (Err r) = number_of r.why * (place_most + 1) + min r.place place_most

-- A check, and then 10 at place 0 where the row lent for n values is shorter.
unfoldable pub then_room : Verdict → ℕ → List ℕ → Verdict
then_room said n row = firstly (said ∷ refuse_if (ltb (length row) n) NoRoom 0 ∷ [])

-- A row with the values at its beginning, and the rest as it was.
unfoldable pub answered : List ℕ → List ℕ → List ℕ
answered values row = values ++ drop (length values) row

-- What a row lent for values then holds: them and what lay past them, or on a refusal what it held.
unfoldable pub told : Verdict → List ℕ → List ℕ → List ℕ
told said values row = if_taken said (answered values row) row
