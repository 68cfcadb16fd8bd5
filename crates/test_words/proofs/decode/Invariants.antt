-- The loop of `test_words::decode`: what it keeps. Assumes nothing.
use lib.ListN.{length}
use Rattle.rows.proofs.Filling.{Filled}
use Rattle.test_words.specs.Words.{word_in}
use Rattle.test_words.proofs.decode.Given as goal

abbrev pub invariant-loop-i : goal.invariant-loop-i
invariant-loop-i l =
    Filled (word_in l.bytes) (length l.initial.row) l.initial.row l.i l.row
