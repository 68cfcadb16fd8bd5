-- The loop of `survey::walk_down`: what it keeps. Assumes nothing.
use Rattle.survey.proofs.Holding.{Walk}
use Rattle.survey.specs.Work.{Order, Split, Begun}
use Rattle.tree.proofs.InRows.{tree_in}
use Rattle.survey.proofs.Beginning.{Unsaid}
use Rattle.survey.proofs.walk_down.Given as goal

abbrev pub invariant-loop-v : goal.invariant-loop-v
invariant-loop-v l =
    (o : Order (tree_in l.net.links.now l.net.parents.now l.net.search) l.order)
    → Walk (tree_in l.net.links.now l.net.parents.now l.net.search) l.initial.row 0
    (Split (Begun (tree_in l.net.links.now l.net.parents.now l.net.search)) Unsaid o.place) l.v-index l.row
