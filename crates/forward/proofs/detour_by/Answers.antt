-- `forward::detour_by` meets its contract. Assumes nothing.
use Rattle.rows.proofs.Refusing.{handed}
use Rattle.forward.proofs.Cutting.{failed_there, cut-none, cut-some, cut_asks, cut-listed}
use Rattle.forward.proofs.detour_by.Goals as goal

pub entry_surveyed-entry-requires : goal.entry_surveyed-entry-requires
entry_surveyed-entry-requires c =
    (c.requires.0.surveyed, failed_there _ _ _ c.requires.0)

pub returns-in_err-refuse_if : goal.returns-in_err-refuse_if
returns-in_err-refuse_if c =
    rw (handed _ _ c.from_residual.ensures.1) (
    cut-none _ _ _ c.requires.0 c.entry_surveyed-entry.ensures c.refuse_if.ensures c.in_err-refuse_if.was _
    )

pub list_around-requires : goal.list_around-requires
list_around-requires c =
    let some = cut-some _ _ _ c.requires.0 c.entry_surveyed-entry.ensures c.refuse_if.ensures c.in_ok-refuse_if.was in (
      cut_asks _ _ _ c.requires.0 c.entry_surveyed-entry.ensures some c.swap_by-swap.ensures c.over_link-over.ensures,
      c.requires.1,
    )

pub returns : goal.returns
returns c =
    let some = cut-some _ _ _ c.requires.0 c.entry_surveyed-entry.ensures c.refuse_if.ensures c.in_ok-refuse_if.was in
    cut-listed _ _ _ c.requires.0 c.entry_surveyed-entry.ensures some c.swap_by-swap.ensures c.over_link-over.ensures c.args.row.now
    c.list_around.ensures.0 c.list_around.ensures.1
