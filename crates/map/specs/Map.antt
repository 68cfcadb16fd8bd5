-- The unprotected map: eight words, the number of ones, the lowest unprotected node. Assumes nothing.
use Rattle.std.specs.Prelude.{Err, Ok, Result, Bool, ◌&&◌, ◌||◌, List, [], ◌∷◌, ◌++◌, ℕ, ◌+◌, ◌*◌, ◌^◌, eqb, ltb, length, drop}
use Rattle.edition.specs.Refusals.{Verdict, if_taken}
use Rattle.edition.specs.declared.Why.TheVariants.{NoRoom}
use Rattle.edition.specs.Limits.{no_node, map_words, word_bits}
use Rattle.edition.specs.Entries.{none_state, bridge_state}
use Rattle.rows.specs.Count.{sum_to, rows_to, only_if}
use Rattle.rows.specs.First.{first_to, found_or, refuse_if, firstly}
use Rattle.network.specs.Network.{Net}
use Rattle.sound.specs.Sound.{net_verdict}
use Rattle.swap.specs.Entry.{state}
use Rattle.map.specs.declared.Unprotected.{Unprotected}
use Rattle.edition.specs.declared.Refusal.{Refusal}

-- Is x a node in state 2 or 3?
unfoldable pub unprotected : Net → ℕ → Bool
unprotected g x = let s = state g x in ltb x g.nodes && (eqb s none_state || eqb s bridge_state)

-- Word i: node x stands at bit x mod 64 of word x div 64.
unfoldable pub word : Net → ℕ → ℕ
word g i = sum_to (λ j. only_if (unprotected g (i * word_bits + j)) (2 ^ j)) word_bits

-- The eight words.
unfoldable pub map_of : Net → List ℕ
map_of g = rows_to (λ i. word g i ∷ []) map_words

-- The number of ones.
unfoldable pub count_unprotected : Net → ℕ
count_unprotected g = sum_to (λ x. only_if (unprotected g x) 1) g.nodes

-- The lowest unprotected node, 65,535 if none.
unfoldable pub lowest : Net → ℕ
lowest g = found_or no_node (first_to (unprotected g) g.nodes)

-- What is told of the map beside its words.
unfoldable pub told_of : Net → Unprotected
told_of g = record { count = count_unprotected g; lowest = lowest g }

-- 1 to 4, 14, 5 to 9, then 10 where fewer than eight words are lent.
unfoldable pub map_verdict : Net → List ℕ → Verdict
map_verdict g row = firstly (net_verdict g ∷ refuse_if (ltb (length row) map_words) NoRoom 0 ∷ [])

-- What is told where the verdict is taken, else the refusal.
abbrev pub map_if : Verdict → Unprotected → Result Unprotected Refusal
map_if (Ok _) told = Ok told
map_if (Err r) told = Err r

-- What the call answers: count and lowest, or the refusal.
unfoldable pub map_answer : Net → List ℕ → Result Unprotected Refusal
map_answer g row = map_if (map_verdict g row) (told_of g)

-- What the lent row then holds: the map and what lay past it, or on a refusal what it held.
unfoldable pub map_row : Net → List ℕ → List ℕ
map_row g row = let new = map_of g ++ drop map_words row in if_taken (map_verdict g row) new row
