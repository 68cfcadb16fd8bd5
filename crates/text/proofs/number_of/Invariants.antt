-- The loop of `text::number_of`: what it keeps. Assumes nothing.
use Rattle.text.proofs.Scanning.{Spelling}
use Rattle.text.proofs.number_of.Given as goal

abbrev pub invariant-loop-i : goal.invariant-loop-i
invariant-loop-i l =
    Spelling l.text l.from l.to l.value l.i
