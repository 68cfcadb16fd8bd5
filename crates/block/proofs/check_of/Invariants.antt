-- The loop of `block::check_of`: what it keeps and what falls. Assumes nothing.
use Rattle.block.proofs.Summing.{Summing}
use Rattle.block.proofs.check_of.Given as goal

abbrev pub invariant-loop-k : goal.invariant-loop-k
invariant-loop-k l =
    Summing l.b l.sum l.k
