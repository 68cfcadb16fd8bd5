-- The table: an entry a node, in node order, in a lent row. Assumes nothing.
use Rattle.std.specs.Prelude.{Err, Ok, Result, ℕ, Bool, cond, not, List, [], ◌∷◌, ◌++◌, ◌==◌, nat_le, nat_lt, slice_index}
use Rattle.edition.specs.Refusals.{Verdict, if_taken}
use Rattle.edition.specs.declared.Why.TheVariants.{NoRoute, NoRoom}
use Rattle.edition.specs.declared.Entry.{Entry}
use Rattle.entries.specs.Row.{entry_row, entries_in, standing, past_entries}
use Rattle.rows.specs.Count.{rows_to}
use Rattle.rows.specs.First.{refuse_if, firstly}
use Rattle.network.specs.Network.{Net}
use Rattle.sound.specs.Sound.{net_verdict}
use Rattle.sound.specs.Surveyed.{sound_verdict}
use Rattle.swap.specs.Entry.{entry}
use Rattle.edition.specs.declared.Refusal.{Refusal}

-- The record of each node's entry, one after the other.
unfoldable pub table : Net → List ℕ
table g = rows_to (λ x. entry_row (entry g x)) g.nodes

-- 1 to 4, 14, 5 to 9, then 10 where fewer entries are lent than there are nodes.
unfoldable pub table_verdict : Net → List ℕ → Verdict
table_verdict g row = firstly (net_verdict g ∷ refuse_if (nat_lt (entries_in row) g.nodes) NoRoom 0 ∷ [])

-- What the lent row then holds: the table and what lay past it, or on a refusal what it held.
unfoldable pub table_row : Net → List ℕ → List ℕ
table_row g row = let new = table g ++ past_entries g.nodes row in if_taken (table_verdict g row) new row

-- The same with a row to work in for the survey: before all of it 10, where that row has no room for a network at the limit.
unfoldable pub work_verdict : Net → List ℕ → List ℕ → Verdict
work_verdict g survey row = firstly (sound_verdict g survey ∷ refuse_if (nat_lt (entries_in row) g.nodes) NoRoom 0 ∷ [])

-- One node's entry: 1 to 4, 14, 5 to 9, then 8 at x where x is no node.
unfoldable pub entry_verdict : Net → ℕ → Verdict
entry_verdict g x = firstly (net_verdict g ∷ refuse_if (nat_le g.nodes x) NoRoute x ∷ [])

-- An entry where the verdict is taken, else the refusal.
abbrev pub entry_if : Verdict → Entry → Result Entry Refusal
entry_if (Ok _) e = Ok e
entry_if (Err r) e = Err r

-- What the call answers: the entry of x, or the refusal.
unfoldable pub entry_answer : Net → ℕ → Result Entry Refusal
entry_answer g x = entry_if (entry_verdict g x) (entry g x)

-- Is a node asked for: is its number in the row not 0? Past the end it is 0.
unfoldable pub is_asked : List ℕ → ℕ → Bool
is_asked asked x = not (slice_index asked x == 0)

-- The record of x: its entry's where x is asked for, elsewhere as it stands.
unfoldable pub fresh_at : Net → List ℕ → List ℕ → ℕ → List ℕ
fresh_at g asked row x = cond (is_asked asked x) (entry_row (entry g x)) (standing row x)

-- The lent row with the entries of the nodes asked for afresh, or on a refusal what it held.
unfoldable pub fresh_row : Net → List ℕ → List ℕ → List ℕ
fresh_row g asked row =
    let new = rows_to (fresh_at g asked row) g.nodes ++ past_entries g.nodes row in
    if_taken (table_verdict g row) new row
