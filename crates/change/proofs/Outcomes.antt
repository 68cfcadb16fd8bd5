-- Two outcomes that a promise allows are equal: one theorem a public function, in the words of its contract. Assumes nothing.
use Prim.Native.Nat.{ℕ}
use mathlib.Core.List.{List}
use Rattle.change.specs.Change.{change_verdict, Lent, changed}
use Rattle.edition.specs.declared.Change.{Change}
use Rattle.edition.specs.declared.Search.{Search}
use Rattle.network.specs.Network.{net_of}
use Rattle.edition.proofs.Only.{One, one}

-- `change::check_change`
pub one_check_change :
    (links parents : List ℕ) (search : Search) (entries : List ℕ) (change : Change) →
    let g = net_of links parents search in
    One (change_verdict g entries change)
one_check_change links parents search entries change = one _

-- `change::change`
pub one_change :
    (links parents : List ℕ) (search : Search) (entries : List ℕ) (change : Change) →
    let lent : Lent = record { links = links; entries = entries } in
    let g = net_of links parents search in
    let after = changed parents search change lent in
    One (change_verdict g lent.entries change)
    × One after.links
    × One after.entries
one_change links parents search entries change = (one _, one _, one _)
