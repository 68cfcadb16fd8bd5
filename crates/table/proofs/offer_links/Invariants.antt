-- The loop of `table::offer_links`: what it keeps. Assumes nothing.
use Rattle.table.specs.Work.{Searching, LinkedTo}
use Rattle.network.specs.Network.{lent}
use Rattle.std.proofs.Common.{ℕ, List}
use Rattle.table.proofs.offer_links.Given as goal

abbrev pub invariant-loop-e : goal.invariant-loop-e
invariant-loop-e l =
    (asked : List ℕ)
    → Searching (lent l.net) asked l.survey l.ranks l.initial.entries
    → LinkedTo (lent l.net) (lent l.net).nodes asked l.e l.initial.entries l.entries
