-- What private functions of this crate promise each other. No public promise cites this page. Assumes nothing.
use Rattle.std.specs.Prelude.{Err, None, Ok, Option, Result, Some, Bool, cond, not, ◌&&◌, ◌||◌, List, ℕ, ◌+◌, ◌*◌, ◌^◌, eqb, ltb, length, get_or}
use Rattle.std.specs.Int.Count.{ones, count_trailing_zeros}
use Rattle.edition.specs.declared.Why.TheVariants.{NoRoom}
use Rattle.edition.specs.Limits.{no_node, map_words, word_bits}
use Rattle.edition.specs.Entries.{none_state, bridge_state}
use Rattle.entries.specs.Row.{entry_at}
use Rattle.rows.specs.Count.{sum_to, only_if, row_with}
use Rattle.rows.specs.First.{first_to}
use Rattle.edition.specs.declared.Refusal.{Refusal}
use Rattle.map.specs.declared.Unprotected.{Unprotected}

-- is x, of n nodes, in state 2 or 3 by a row of entries?
unfoldable pub open_by : List ℕ → ℕ → ℕ → Bool
open_by row n x = let s = (entry_at row x).state in ltb x n && (eqb s none_state || eqb s bridge_state)

-- k tests as the bits of a number, the first the lowest
unfoldable pub packed : (ℕ → Bool) → ℕ → ℕ
packed p k = sum_to (λ j. only_if (p j) (2 ^ j)) k

-- word i of tests
unfoldable pub word_by : (ℕ → Bool) → ℕ → ℕ
word_by p i = packed (λ j. p (i * word_bits + j)) word_bits

-- a lent row with the words of tests at its beginning
unfoldable pub words_by : (ℕ → Bool) → List ℕ → List ℕ
words_by p row = row_with (word_by p) map_words row

-- the ones of the first words of a row
unfoldable pub ones_in : List ℕ → ℕ
ones_in row = sum_to (λ i. ones (get_or row i 0)) map_words

-- is word i not 0?
unfoldable pub some_in : List ℕ → ℕ → Bool
some_in row i = not (eqb (get_or row i 0) 0)

-- the lowest one of the word found
unfoldable pub lowest_at : List ℕ → Option ℕ → ℕ
lowest_at row None = no_node
lowest_at row (Some i) = i * word_bits + count_trailing_zeros word_bits (get_or row i 0)

unfoldable pub lowest_in : List ℕ → ℕ
lowest_in row = lowest_at row (first_to (some_in row) map_words)

-- is the lent row too short for the words?
unfoldable pub too_short : List ℕ → Bool
too_short row = ltb (length row) map_words

-- what is told of a table, and the lent row then
unfoldable pub told_by : (ℕ → Bool) → List ℕ → Result Unprotected Refusal
told_by p row =
    let new = words_by p row in
    cond (too_short row) (Err (record { why = NoRoom; place = 0 })) (Ok (record { count = ones_in new; lowest = lowest_in new }))

unfoldable pub left_by : (ℕ → Bool) → List ℕ → List ℕ
left_by p row = cond (too_short row) row (words_by p row)
