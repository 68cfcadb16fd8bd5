-- The loop of `change::flip_up`: what it keeps and what falls. Assumes nothing.
use lib.ListN.{length}
use Rattle.tree.specs.Tree.{route}
use Rattle.tree.proofs.InRows.{tree_in}
use Rattle.change.proofs.Flipping.{Flipping}
use Rattle.change.proofs.flip_up.Given as goal

abbrev pub invariant-loop-c : goal.invariant-loop-c
invariant-loop-c l =
    Flipping (tree_in l.net.links.now l.net.parents.now l.net.search) l.u l.initial.asked l.c l.asked

abbrev pub decreases-loop-c : goal.decreases-loop-c
decreases-loop-c l =
    length (route (tree_in l.net.links.now l.net.parents.now l.net.search) l.c)
