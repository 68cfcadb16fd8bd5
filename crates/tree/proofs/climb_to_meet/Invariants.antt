-- The loop of `tree::climb_to_meet`: what it keeps and what falls. Assumes nothing.
use Rattle.std.proofs.Common.{◌+◌, length}
use Rattle.tree.specs.Tree.{route}
use Rattle.tree.proofs.InRows.{tree_in}
use Rattle.tree.proofs.Together.{Together}
use Rattle.tree.proofs.climb_to_meet.Given as goal

abbrev pub invariant-loop-a : goal.invariant-loop-a
invariant-loop-a l =
    Together (tree_in l.net.links.now l.net.parents.now l.net.search) l.u l.z l.from_u l.from_z l.a l.b

abbrev pub decreases-loop-a : goal.decreases-loop-a
decreases-loop-a l =
    length (route (tree_in l.net.links.now l.net.parents.now l.net.search) l.a.node) + length
    (route (tree_in l.net.links.now l.net.parents.now l.net.search) l.b.node)
