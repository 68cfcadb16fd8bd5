-- The loop of `table::climb_link`: what it keeps and what falls. Assumes nothing.
use Rattle.std.proofs.Common.{ℕ, List}
use Rattle.table.proofs.Linking.{Between, ahead}
use Rattle.table.specs.Work.{Climbing}
use Rattle.network.specs.Network.{Net}
use Rattle.table.proofs.climb_link.Given as goal

abbrev pub invariant-loop-search : goal.invariant-loop-search
invariant-loop-search l =
    (g : Net) (asked : List ℕ)
    → Climbing g l.search l.links asked l.survey l.ranks l.initial.entries l.e l.k l.initial.a l.initial.b
    → Between g l.survey asked l.e l.k l.initial.entries l.a l.b l.entries

abbrev pub decreases-loop-search : goal.decreases-loop-search
decreases-loop-search l =
    ahead l.survey l.a l.b
