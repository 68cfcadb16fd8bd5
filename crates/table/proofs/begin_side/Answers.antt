-- `table::begin_side` meets its contract. Assumes nothing.
use Rattle.table.proofs.Sides.{start_less, started}
use Rattle.table.proofs.begin_side.Goals as goal

pub overflow_sub-result : goal.overflow_sub-result
overflow_sub-result c =
    start_less c.requires.1 c.known_at-k.ensures

pub returns : goal.returns
returns c =
    λ g h. started h c.known_at-k.ensures _ c.begin.ensures
