-- The loop of `forward::write_up`: what it keeps and what falls. Assumes nothing.
use lib.ListN.{length}
use Rattle.forward.proofs.Writing.{Rising}
use Rattle.network.specs.Network.{lent}
use Rattle.tree.specs.Tree.{route, tree_of}
use Rattle.forward.proofs.write_up.Given as goal

abbrev pub invariant-loop-node : goal.invariant-loop-node
invariant-loop-node l =
    Rising (lent l.net) l.x l.u l.at l.initial.row l.node l.k l.row

abbrev pub decreases-loop-node : goal.decreases-loop-node
decreases-loop-node l =
    length (route (tree_of (lent l.net)) l.node)
