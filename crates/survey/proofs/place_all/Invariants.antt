-- The loop of `survey::place_all`: what it keeps. Assumes nothing.
use Rattle.tree.proofs.InRows.{tree_in}
use Rattle.survey.proofs.Whole.{Turning}
use Rattle.survey.proofs.place_all.Given as goal

abbrev pub invariant-loop-u : goal.invariant-loop-u
invariant-loop-u l =
    Turning (tree_in l.net.links.now l.net.parents.now l.net.search) l.initial.order l.initial.seats l.initial.path l.u l.m l.order l.seats l.path
