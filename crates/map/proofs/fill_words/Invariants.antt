-- The loop of `map::fill_words`: what it keeps. Assumes nothing.
use Rattle.edition.specs.Limits.{map_words}
use Rattle.map.specs.Work.{open_by, word_by}
use Rattle.rows.proofs.Filling.{Filled}
use Rattle.map.proofs.fill_words.Given as goal

abbrev pub invariant-loop-i : goal.invariant-loop-i
invariant-loop-i l =
    Filled (word_by (open_by l.entries l.n)) map_words l.initial.words l.i l.words
