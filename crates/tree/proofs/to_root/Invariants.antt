-- The loop of `tree::to_root`: what it keeps. Assumes nothing.
use Rattle.tree.proofs.InRows.{tree_in}
use Rattle.std.proofs.Common.{length}
use Rattle.tree.proofs.Climbing.{Rising}
use Rattle.tree.proofs.to_root.Given as goal

abbrev pub invariant-loop-k : goal.invariant-loop-k
invariant-loop-k l =
    Rising (tree_in l.net.links.now l.net.parents.now l.net.search) (length l.net.parents.now) l.u l._k l.c
