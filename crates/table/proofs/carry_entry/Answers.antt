-- `table::carry_entry` meets its contract. Assumes nothing.
use Rattle.table.proofs.Carrying.{with_none, with_all}
use Rattle.std.proofs.Common.{arith}
use Rattle.table.proofs.carry_entry.Goals as goal

pub loop-e-init : goal.loop-e-init
loop-e-init c =
    with_none _ _ _ _ c.first_entry-it.ensures

pub returns : goal.returns
returns c =
    with_all _ _ _ _ _ (omega (arith, c.links_in-e-end.ensures)) c.loop-e.invariant
