-- The loop of `table::join_ranks`: what it keeps. Assumes nothing.
use Rattle.table.proofs.Joining.{Turning}
use Rattle.table.specs.Work.{Partly}
use Rattle.network.specs.Network.{Net}
use Rattle.std.proofs.Common.{◌≡◌, ℕ, List}
use Rattle.table.proofs.join_ranks.Given as goal

abbrev pub invariant-loop-u : goal.invariant-loop-u
invariant-loop-u l =
    (g : Net) (asked : List ℕ) → Partly g asked l.survey l.initial.ranks → g.nodes ≡ l.n → Turning g asked l.survey l.initial.ranks l.u l.ranks
