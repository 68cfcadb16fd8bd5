-- The forwarder and a table that goes through changes: the swap link that a list goes by is the one in the table as it then stands.
-- Assumes nothing.
use mathlib.Core.Path.{◌≡◌, sym, ap, ◌∙◌}
use mathlib.Core.List.{List}
use Prim.Native.Nat.{ℕ, ◌<◌}
use lib.ListN.{length}
use Rattle.edition.specs.declared.Change.{Change}
use Rattle.edition.specs.declared.Search.{Search}
use Rattle.edition.specs.Entries.{swap_by}
use Rattle.entries.specs.Row.{entry_at}
use Rattle.network.specs.Network.{net_of}
use Rattle.change.specs.Change.{Lent, changed_by}
use Rattle.change.proofs.Series.{Right, series_right}
use Rattle.forward.specs.declared.Ask.{Ask}
use Rattle.forward.specs.Forward.{swap_link}
use Rattle.forward.proofs.Tabled.{table_names}

-- after any list of changes, refused ones among them, from a sound network with its table
pub series_names :
    (parents : List ℕ) (search : Search) (rest : List ℕ) (cs : List Change) (lent : Lent)
    → Right parents search rest lent → (a : Ask) → a.failed < length parents
    → swap_link (net_of (changed_by parents search cs lent).links parents search) a
    ≡ (swap_by (entry_at (changed_by parents search cs lent).entries a.failed) a.measure).link
unfolding net_of
series_names parents search rest cs lent r a l =
    let after = series_right parents search rest cs lent r in
    table_names (net_of (changed_by parents search cs lent).links parents search) a rest l
    ∙ ap (λ (row : List ℕ). (swap_by (entry_at row a.failed) a.measure).link) (sym after.fresh)
