-- `archive::is_bad_entry` meets its contract. Assumes nothing.
use Rattle.archive.proofs.Comparing.{starts_same}
use Rattle.archive.proofs.Entries.{bad_is}
use Rattle.archive.proofs.is_bad_entry.Goals as goal

pub returns : goal.returns
returns c =
    bad_is _ _ _ c.put_entry.ensures _ _ _ _ _ c.parent_of.ensures c.entry_at.ensures _ c.entry_place.ensures _
    (starts_same c.args.file.now c.put_entry.new.bytes c.entry_place.result _ c.starts_with.ensures.value)
