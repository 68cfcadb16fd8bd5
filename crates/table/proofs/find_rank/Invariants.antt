-- The loop of `table::find_rank`: what it keeps and what falls. Assumes nothing.
use Rattle.table.proofs.Joining.{room-up, Looking}
use Rattle.table.specs.Work.{Upward}
use Rattle.network.specs.Network.{Net}
use Rattle.std.proofs.Common.{ℕ, List}
use Rattle.table.proofs.find_rank.Given as goal

abbrev pub invariant-loop-c : goal.invariant-loop-c
invariant-loop-c l =
    (g : Net) (asked : List ℕ) → Upward g asked l.survey l.ranks l.u → Looking g asked l.u l.c

abbrev pub decreases-loop-c : goal.decreases-loop-c
decreases-loop-c l =
    room-up l.survey l.c
