-- The loop of `survey::fill_distances`: what it keeps. Assumes nothing.
use Rattle.tree.specs.Tree.{dist}
use Rattle.tree.proofs.InRows.{tree_in}
use Rattle.survey.specs.Work.{Order}
use Rattle.survey.proofs.Down.{Down}
use Rattle.survey.proofs.fill_distances.Given as goal

abbrev pub invariant-loop-v : goal.invariant-loop-v
invariant-loop-v l =
    (o : Order (tree_in l.net.links.now l.net.parents.now l.net.search) l.order)
    → Down (tree_in l.net.links.now l.net.parents.now l.net.search) l.order o
    (dist (tree_in l.net.links.now l.net.parents.now l.net.search)) l.initial.row l.v-index l.row
