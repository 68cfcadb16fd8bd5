-- `table::table` meets its contract. Assumes nothing.
use Rattle.table.proofs.Whole.{all_fresh}
use Rattle.std.proofs.Common.{◌∙◌}
use Rattle.table.proofs.table.Goals as goal

pub returns : goal.returns
returns c =
    (c.refresh.ensures.0, c.refresh.ensures.1 ∙ all_fresh _ _)
