-- `swapfile::take_text` meets its contract. Assumes nothing.
use Rattle.text.proofs.Numbering.{goes_on}
use Rattle.swapfile.proofs.take_text.Goals as goal

pub loop-cursor-smaller : goal.loop-cursor-smaller
loop-cursor-smaller g c =
    goes_on _ _ _ c.next_line-step.ensures c.loop-cursor-test.true
