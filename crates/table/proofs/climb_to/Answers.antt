-- `table::climb_to` meets its contract. Assumes nothing.
use Rattle.table.proofs.Carrying.{risen_more, rising-steps, rising_less}
use Rattle.table.proofs.climb_to.Goals as goal

pub step-a-requires : goal.step-a-requires
step-a-requires c =
    (c.requires.0, rising-steps (c.loop-a.invariant _ c.requires.1).rising c.loop-a-test.true)

pub loop-a-smaller : goal.loop-a-smaller
loop-a-smaller c =
    let at = (c.loop-a.invariant _ c.requires.1).rising in
    rising_less at c.loop-a-test.true (c.step-a.ensures _ (rising-steps at c.loop-a-test.true))

pub loop-a-preserved : goal.loop-a-preserved
loop-a-preserved c =
    λ g h.
    let i = c.loop-a.invariant g h in
    risen_more i.rising c.loop-a-test.true (c.step-a.ensures g (rising-steps i.rising c.loop-a-test.true)) i
