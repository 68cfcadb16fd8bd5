-- `archive::fill_rows` meets its contract. Assumes nothing.
use native.Mathlib.Omega.{arith}
use Rattle.archive.proofs.Holding.{few-nodes, few-links, links-filled, parents-filled}
use Rattle.archive.proofs.AcceptedRows.{accepted_blocked, links-room, parents-room, entries-room}
use Rattle.archive.proofs.Copying.{entries-copied}
use Rattle.archive.proofs.fill_rows.Goals as goal

pub fill_links-requires : goal.fill_links-requires
fill_links-requires c =
    let held = accepted_blocked _ _ c.requires.0 _ c.requires.1 in
    (omega (arith, few-links _ _ held), links-room _ _ c.requires.0 _ c.requires.1)

pub fill_parents-requires : goal.fill_parents-requires
fill_parents-requires c =
    let held = accepted_blocked _ _ c.requires.0 _ c.requires.1 in
    (omega (arith, few-links _ _ held), omega (arith, few-nodes _ _ held), parents-room _ _ c.requires.0 _ c.requires.1)

pub copy_entries-requires : goal.copy_entries-requires
copy_entries-requires c =
    entries-room _ _ c.requires.0 _ c.requires.1

pub returns : goal.returns
returns c =
    let held = accepted_blocked _ _ c.requires.0 _ c.requires.1 in (
      links-filled _ _ held _ _ c.fill_links.ensures,
      parents-filled _ _ held _ _ c.fill_parents.ensures,
      entries-copied _ _ c.requires.2 _ c.requires.1 _ _ c.copy_entries.ensures,
    )
