-- `archive::check_content` meets its contract. Assumes nothing.
use Rattle.rows.proofs.Refusing.{handed_on}
use Rattle.archive.proofs.Tabling.{bare_net, bare_tabled}
use Rattle.archive.proofs.WriterAnswer.{few-nodes, links-small}
use Rattle.archive.proofs.Entries.{placed_by, net_judged, room_judged, entries_judged}
use Rattle.archive.proofs.check_content.Goals as goal

pub returns-in_err-table : goal.returns-in_err-table
returns-in_err-table c =
    rw (handed_on _ _ _ c.from_residual.ensures.1 c.in_err-table.was)
    (net_judged _ _ _ _ _ _ (bare_net _ _ c.requires.1 _ c.table.ensures.0) _ c.in_err-table.was _)

pub returns-in_err-refuse_if : goal.returns-in_err-refuse_if
returns-in_err-refuse_if c =
    let held = bare_tabled _ _ c.requires.1 _ c.table.ensures.0 c.in_ok-table.was _ c.table.ensures.1 in
    rw (handed_on _ _ _ c.from_residual-in_err-refuse_if.ensures.1 c.in_err-refuse_if.was)
    (room_judged _ _ _ _ _ _ held _ c.refuse_if.ensures _ c.in_err-refuse_if.was)

pub seek_bad_entry-bad-requires : goal.seek_bad_entry-bad-requires
seek_bad_entry-bad-requires c =
    let held = bare_tabled _ _ c.requires.1 _ c.table.ensures.0 c.in_ok-table.was _ c.table.ensures.1 in
    (links-small _ _ _ held.ok _ c.links_in.ensures, few-nodes _ _ _ held.ok, placed_by _ _ _ _ c.links_in.ensures c.requires.0)

pub returns : goal.returns
returns c =
    let held = bare_tabled _ _ c.requires.1 _ c.table.ensures.0 c.in_ok-table.was _ c.table.ensures.1 in
    entries_judged _ _ _ _ _ _ held _ c.refuse_if.ensures
    c.in_ok-refuse_if.was _ c.links_in.ensures _
    c.seek_bad_entry-bad.ensures _ c.refused_at.ensures
