-- `table::entry_surveyed` meets its contract. Assumes nothing.
use Rattle.table.proofs.Joining.{ranking}
use Rattle.table.proofs.Alone.{telling}
use Rattle.table.proofs.Single.{parents-few}
use Rattle.std.proofs.Common.{arith}
use Rattle.table.proofs.entry_surveyed.Goals as goal

pub offset_bounds-asked-x : goal.offset_bounds-asked-x
offset_bounds-asked-x c =
    omega (arith, c.requires.1, parents-few _ _ _ c.requires.0)

pub bounds-asked-x : goal.bounds-asked-x
bounds-asked-x c =
    omega (arith, c.requires.1, parents-few _ _ _ c.requires.0)

pub fill_ranks-requires : goal.fill_ranks-requires
fill_ranks-requires c =
    (_, ranking _ _ _ c.requires.0)

pub carry_entry-requires : goal.carry_entry-requires
carry_entry-requires c =
    telling _ _ _ c.requires.0 c.requires.1 (c.fill_ranks.ensures _ (ranking _ _ _ c.requires.0))
