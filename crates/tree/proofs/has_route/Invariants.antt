-- The loop of `tree::has_route`: what it keeps. Assumes nothing.
use Rattle.std.proofs.Common.{length}
use Rattle.tree.proofs.Climbing.{Finding}
use Rattle.network.specs.Network.{lent}
use Rattle.tree.specs.Tree.{tree_of}
use Rattle.tree.proofs.has_route.Given as goal

abbrev pub invariant-loop-k : goal.invariant-loop-k
invariant-loop-k l =
    Finding (tree_of (lent l.net)) (length l.net.parents.now) l.u l._k l.node
