-- The loop of `forward::climb_to`: what it keeps and what falls. Assumes nothing.
use lib.ListN.{length}
use Rattle.tree.specs.Tree.{route}
use Rattle.tree.proofs.InRows.{tree_in}
use Rattle.tree.proofs.Onto.{Onward}
use Rattle.forward.proofs.Reaching.{ends}
use Rattle.forward.proofs.climb_to.Given as goal

abbrev pub invariant-loop-net : goal.invariant-loop-net
invariant-loop-net l =
    Onward (tree_in l.net.links.now l.net.parents.now l.net.search) l.u (ends l.net.search.root l.x) l.c

abbrev pub decreases-loop-net : goal.decreases-loop-net
decreases-loop-net l =
    length (route (tree_in l.net.links.now l.net.parents.now l.net.search) l.c.node)
