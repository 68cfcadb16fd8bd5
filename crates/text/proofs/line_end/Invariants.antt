-- The loop of `text::line_end`: what it keeps. Assumes nothing.
use Rattle.text.proofs.Scanning.{Scanning}
use lib.Dec.{eqb}
use lib.ListN.{length}
use Rattle.text.specs.Words.{newline, byte_at}
use Rattle.text.proofs.line_end.Given as goal

abbrev pub invariant-loop-i : goal.invariant-loop-i
invariant-loop-i l =
    Scanning (λ j. eqb (byte_at l.text j) newline) l.at (length l.text) l.i
