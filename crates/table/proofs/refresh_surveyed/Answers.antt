-- `table::refresh_surveyed` meets its contract. Assumes nothing.
use Rattle.table.proofs.Slots.{entries_list}
use Rattle.table.proofs.refresh_surveyed.Goals as goal

pub returns : goal.returns
returns c =
    entries_list _ _ _ _ c.requires.1 c.search_asked.ensures
