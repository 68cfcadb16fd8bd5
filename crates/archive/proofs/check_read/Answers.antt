-- `archive::check_read` meets its contract. Assumes nothing.
use mathlib.Core.Path.{refl, sym, ◌∙◌}
use Rattle.rows.proofs.Refusing.{handed_on}
use Rattle.archive.proofs.ReadOrder.{blocks_refuse, blocked, records_decide}
use Rattle.archive.proofs.check_read.Goals as goal

pub returns-in_err-check_file : goal.returns-in_err-check_file
returns-in_err-check_file c =
    rw (handed_on _ _ _ c.from_residual.ensures.1 c.in_err-check_file.was)
    (blocks_refuse _ _ _ c.check_file.ensures _ c.in_err-check_file.was)

pub check_records-requires : goal.check_records-requires
check_records-requires c = (blocked _ (sym c.check_file.ensures ∙ c.in_ok-check_file.was) _ c.header_of-head.ensures, refl)

pub returns : goal.returns
returns c =
    records_decide _ (sym c.check_file.ensures ∙ c.in_ok-check_file.was) _ c.header_of-head.ensures _ _ c.is_too_short-short.ensures _
    c.check_records.ensures.is
