-- `test_words::decode` meets its contract. Assumes nothing.
use native.Mathlib.Omega.{arith}
use Rattle.rows.proofs.Filling.{filled-start, filled_more, filled-length}
use Rattle.test_words.proofs.Reading.{words_filled}
use Rattle.test_words.proofs.decode.Goals as goal

pub loop-i-init : goal.loop-i-init
loop-i-init c =
    filled-start _ _ _ (omega arith)

pub loop-i-preserved : goal.loop-i-preserved
loop-i-preserved c =
    filled_more _ _ _ _ _ c.loop-i.invariant
    (omega (arith, c.loop-i-test.true, filled-length _ _ _ _ _ c.loop-i.invariant)) _ c.word.ensures

pub returns : goal.returns
returns c =
    words_filled _ _ _ _ c.loop-i.invariant (omega (arith, c.loop-i-test.false, filled-length _ _ _ _ _ c.loop-i.invariant))
