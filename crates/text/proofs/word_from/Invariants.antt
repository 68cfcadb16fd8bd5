-- The loop of `text::word_from`: what it keeps. Assumes nothing.
use Rattle.text.proofs.Scanning.{Scanning}
use mathlib.Core.Bool.{not}
use Rattle.text.specs.Words.{byte_at, is_blank}
use Rattle.text.proofs.word_from.Given as goal

abbrev pub invariant-loop-i : goal.invariant-loop-i
invariant-loop-i l =
    Scanning (λ j. not (is_blank (byte_at l.text j))) l.at l.end l.i
