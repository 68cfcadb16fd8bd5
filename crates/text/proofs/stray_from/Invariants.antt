-- The loop of `text::stray_from`: what it keeps. Assumes nothing.
use Rattle.text.proofs.Scanning.{Scanning}
use Rattle.text.specs.Words.{is_stray}
use Rattle.text.proofs.stray_from.Given as goal

abbrev pub invariant-loop-i : goal.invariant-loop-i
invariant-loop-i l =
    Scanning (is_stray l.text) l.at l.end l.i
