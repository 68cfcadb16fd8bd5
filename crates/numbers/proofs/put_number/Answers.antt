-- `numbers::put_number` meets its contract. Assumes nothing.
use Rattle.numbers.proofs.Putting.{putting_more, putting_end}
use Rattle.numbers.proofs.put_number.Goals as goal

pub loop-j-preserved : goal.loop-j-preserved
loop-j-preserved c =
    putting_more _ _ _ _ _ _ _ c.loop-j.invariant c.loop-j-test.true _ c.put_byte.ensures

pub returns : goal.returns
returns c =
    putting_end _ _ _ _ _ _ _ c.loop-j.invariant c.loop-j-test.false
