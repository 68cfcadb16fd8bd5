-- `table::mark_ranks` meets its contract. Assumes nothing.
use Rattle.rows.proofs.Filling.{filled-start, filled_more}
use Rattle.table.proofs.mark_ranks.Goals as goal

pub loop-x-init : goal.loop-x-init
loop-x-init c =
    filled-start _ _ _ c.requires.1

pub loop-x-preserved : goal.loop-x-preserved
loop-x-preserved c =
    filled_more _ _ _ _ _ c.loop-x.invariant c.loop-x-test.true _ c.first_rank.ensures
