-- The loop of `text::word_to`: what it keeps. Assumes nothing.
use Rattle.text.proofs.Scanning.{Scanning}
use Rattle.text.specs.Words.{byte_at, is_past}
use Rattle.text.proofs.word_to.Given as goal

abbrev pub invariant-loop-i : goal.invariant-loop-i
invariant-loop-i l =
    Scanning (λ j. is_past (byte_at l.text j)) l.from l.end l.i
