-- The swap link that a list goes by is the one in the table. Assumes nothing.
use mathlib.Core.Path.{◌≡◌, sym, ap}
use mathlib.Core.List.{List, ◌++◌}
use Prim.Native.Nat.{ℕ, ◌<◌}
use Rattle.edition.specs.declared.Entry.{Entry}
use Rattle.edition.specs.Entries.{swap_by}
use Rattle.entries.specs.Row.{entry_at}
use Rattle.network.specs.Network.{Net}
use Rattle.table.specs.Table.{table}
use Rattle.table.proofs.Whole.{table-entry}
use Rattle.forward.specs.declared.Ask.{Ask}
use Rattle.forward.specs.Forward.{swap_link}

-- in a row that begins with the network's table, the entry of the failed node names it
pub table_names :
    (g : Net) (a : Ask) (more : List ℕ) → a.failed < g.nodes → swap_link g a ≡ (swap_by (entry_at (table g ++ more) a.failed) a.measure).link
unfolding swap_link
table_names g a more l = ap (λ (e : Entry). (swap_by e a.measure).link) (sym (table-entry g more a.failed l))
