-- The loop of `archive::fill_parents`: what it keeps. Assumes nothing.
use Rattle.rows.proofs.Filling.{Filled}
use Rattle.archive.specs.Work.{parent_number}
use Rattle.archive.proofs.fill_parents.Given as goal

abbrev pub invariant-loop-x : goal.invariant-loop-x
invariant-loop-x l =
    Filled (parent_number l.file l.m) l.n l.initial.parent-items l.x l.parent-items
