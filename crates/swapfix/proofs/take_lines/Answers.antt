-- `swapfix::take_lines` meets its contract. Assumes nothing.
use Rattle.text.proofs.Numbering.{goes_on}
use Rattle.swapfix.proofs.take_lines.Goals as goal

pub loop-cursor-smaller : goal.loop-cursor-smaller
loop-cursor-smaller c =
    goes_on _ _ _ c.next_line-step.ensures c.loop-cursor-test.true
