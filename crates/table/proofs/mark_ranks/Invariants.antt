-- The loop of `table::mark_ranks`: what it keeps. Assumes nothing.
use Rattle.table.specs.Work.{first_rank}
use Rattle.rows.proofs.Filling.{Filled}
use Rattle.table.proofs.mark_ranks.Given as goal

abbrev pub invariant-loop-x : goal.invariant-loop-x
invariant-loop-x l =
    Filled (first_rank l.survey l.asked l.root) l.n l.initial.ranks l.x l.ranks
