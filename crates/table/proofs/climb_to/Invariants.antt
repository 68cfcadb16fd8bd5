-- The loop of `table::climb_to`: what it keeps and what falls. Assumes nothing.
use Rattle.table.proofs.Joining.{room-up}
use Rattle.table.specs.Work.{Rising, Risen}
use Rattle.network.specs.Network.{Net}
use Rattle.table.proofs.climb_to.Given as goal

abbrev pub invariant-loop-a : goal.invariant-loop-a
invariant-loop-a l =
    (g : Net) → Rising g l.survey l.x l.initial.a → Risen g l.survey l.x l.initial.a l.a

abbrev pub decreases-loop-a : goal.decreases-loop-a
decreases-loop-a l =
    room-up l.survey l.a.climb.node
