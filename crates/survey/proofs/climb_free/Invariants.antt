-- The loop of `survey::climb_free`: what it keeps. Assumes nothing.
use Rattle.tree.proofs.InRows.{tree_in}
use Rattle.survey.proofs.Free.{Climbing}
use Rattle.survey.proofs.climb_free.Given as goal

abbrev pub invariant-loop-k : goal.invariant-loop-k
invariant-loop-k l =
    Climbing (tree_in l.net.links.now l.net.parents.now l.net.search) l.seats l.u l.k l.v l.initial.path l.path
