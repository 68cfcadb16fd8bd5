-- The loop of `numbers::put_number`: what it keeps. Assumes nothing.
use Rattle.numbers.proofs.Putting.{Putting}
use Rattle.numbers.proofs.put_number.Given as goal

abbrev pub invariant-loop-j : goal.invariant-loop-j
invariant-loop-j l =
    Putting l.initial.bytes l.at l.k l.v l.j l.rest l.bytes
