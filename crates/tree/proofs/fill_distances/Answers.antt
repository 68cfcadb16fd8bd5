-- `tree::fill_distances` meets its contract. Assumes nothing.
use Rattle.rows.proofs.Filling.{filled-start, filled_more}
use Rattle.tree.proofs.fill_distances.Goals as goal

pub loop-u-init : goal.loop-u-init
loop-u-init c =
    filled-start _ _ _ c.requires.1

pub loop-u-preserved : goal.loop-u-preserved
loop-u-preserved c =
    filled_more _ _ _ _ _ c.loop-u.invariant c.loop-u-test.true _ c.to_root-c.ensures.dist-is
