-- `archive::read` meets its contract. Assumes nothing.
use mathlib.Core.Path.{refl, sym, ◌∙◌}
use Rattle.rows.proofs.Refusing.{handed}
use Rattle.archive.proofs.ReadOrder.{blocks_refuse, blocked, records_decide}
use Rattle.archive.proofs.AcceptedRows.{read_taken, read_refused}
use Rattle.archive.proofs.read.Goals as goal

pub returns-in_err-check_file : goal.returns-in_err-check_file
returns-in_err-check_file c =
    rw (handed _ _ c.from_residual.ensures.1)
    (read_refused _ _ _ _ _ (blocks_refuse _ _ _ c.check_file.ensures _ c.in_err-check_file.was) _ c.in_err-check_file.was)

pub check_records-requires : goal.check_records-requires
check_records-requires c = (blocked _ (sym c.check_file.ensures ∙ c.in_ok-check_file.was) _ c.header_of-head.ensures, refl)

pub returns-in_err-check_records : goal.returns-in_err-check_records
returns-in_err-check_records c =
    let said =
    records_decide _ (sym c.check_file.ensures ∙ c.in_ok-check_file.was) _ c.header_of-head.ensures _ _ c.is_too_short-short.ensures _
    c.check_records.ensures.is in
    rw (handed _ _ c.from_residual-in_err-check_records.ensures.1) (read_refused _ _ _ _ _ said _ c.in_err-check_records.was)

pub fill_rows-requires : goal.fill_rows-requires
fill_rows-requires c =
    let said =
    records_decide _ (sym c.check_file.ensures ∙ c.in_ok-check_file.was) _ c.header_of-head.ensures _ _ c.is_too_short-short.ensures _
    c.check_records.ensures.is in
    (sym said ∙ c.in_ok-check_records.was, c.header_of-head.ensures, c.check_records.ensures.tabled c.in_ok-check_records.was)

pub returns : goal.returns
returns c =
    let said =
    records_decide _ (sym c.check_file.ensures ∙ c.in_ok-check_file.was) _ c.header_of-head.ensures _ _ c.is_too_short-short.ensures _
    c.check_records.ensures.is in
    read_taken _ _ _ _ _ said c.in_ok-check_records.was _ c.header_of-head.ensures _ _ _ c.fill_rows.ensures.0 c.fill_rows.ensures.1
    c.fill_rows.ensures.2
