-- `map::fill_words` meets its contract. Assumes nothing.
use Rattle.rows.proofs.Filling.{filled-start, filled_more}
use Rattle.map.proofs.fill_words.Goals as goal

pub loop-i-init : goal.loop-i-init
loop-i-init c =
    filled-start _ _ _ c.requires

pub loop-i-preserved : goal.loop-i-preserved
loop-i-preserved c =
    filled_more _ _ _ _ _ c.loop-i.invariant c.loop-i-test.true _ c.word_of.ensures
