-- The loop of `tree::fill_distances`: what it keeps. Assumes nothing.
use Rattle.rows.proofs.Filling.{Filled}
use Rattle.std.proofs.Common.{length}
use Rattle.tree.proofs.InRows.{tree_in}
use Rattle.tree.specs.Tree.{dist}
use Rattle.tree.proofs.fill_distances.Given as goal

abbrev pub invariant-loop-u : goal.invariant-loop-u
invariant-loop-u l =
    Filled (dist (tree_in l.net.links.now l.net.parents.now l.net.search)) (length l.net.parents.now) l.initial.row l.u l.row
