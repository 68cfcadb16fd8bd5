-- The loop of `forward::write_down`: what it keeps. Assumes nothing.
use Rattle.forward.proofs.Writing.{Falling}
use Rattle.network.specs.Network.{lent}
use Rattle.forward.proofs.write_down.Given as goal

abbrev pub invariant-loop-left : goal.invariant-loop-left
invariant-loop-left l =
    Falling (lent l.net) l.x l.z l.at l.initial.row l.node l.left l.row
