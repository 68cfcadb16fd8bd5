-- `table::clear_asked` meets its contract. Assumes nothing.
use Rattle.table.proofs.Searching.{clear_more}
use Rattle.table.proofs.clear_asked.Goals as goal

pub loop-x-preserved : goal.loop-x-preserved
loop-x-preserved c =
    clear_more _ _ _ _ _ c.loop-x-test.true (c.requires) _ c.loop-x.invariant _ c.clear_at.ensures
