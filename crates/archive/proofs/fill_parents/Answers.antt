-- `archive::fill_parents` meets its contract. Assumes nothing.
use native.Mathlib.Omega.{arith}
use Rattle.rows.proofs.Filling.{filled-start, filled_more, filled-end}
use Rattle.archive.proofs.Comparing.{parent_number_lem}
use Rattle.archive.proofs.Holding.{part-long, part_written}
use Rattle.archive.proofs.fill_parents.Goals as goal

pub loop-x-init : goal.loop-x-init
loop-x-init c =
    filled-start _ _ _ (omega (arith, part-long _ _ c.requires.2))

pub loop-x-preserved : goal.loop-x-preserved
loop-x-preserved c =
    filled_more _ _ _ _ _ c.loop-x.invariant (omega (arith, part-long _ _ c.requires.2)) _
    (parent_number_lem _ _ _ _ c.entry_place.ensures _ c.two_at.ensures)

pub returns : goal.returns
returns c =
    part_written _ _ c.requires.2 _ _ (filled-end _ _ _ _ _ c.loop-x.invariant (omega (arith, part-long _ _ c.requires.2)))
