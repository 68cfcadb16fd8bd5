-- `map::map_of` meets its contract. Assumes nothing.
use Rattle.map.proofs.Whole.{too_short_lem, long-enough}
use Rattle.map.proofs.map_of.Goals as goal

pub returns-then-words-lt-WORDS : goal.returns-then-words-lt-WORDS
returns-then-words-lt-WORDS c =
    too_short_lem _ _ c.if-words-lt-WORDS.true

pub returns : goal.returns
returns c =
    long-enough _ _ c.if-words-lt-WORDS.false _ c.fill_words.ensures _ c.count_of.ensures _ c.lowest_of.ensures
