-- `archive::write` meets its contract. Assumes nothing.
use mathlib.Core.Path.{refl, sym, ◌∙◌}
use Rattle.rows.proofs.Refusing.{handed}
use Rattle.archive.proofs.Tabling.{bare_net, bare_tabled}
use Rattle.archive.proofs.WriterAnswer.{answer_meant, write_unsound, tabled-small, tabled-refused, tabled-room, tabled_written}
use Rattle.archive.proofs.write.Goals as goal

pub returns-in_err-table : goal.returns-in_err-table
returns-in_err-table c =
    rw (handed _ _ c.from_residual.ensures.1)
    (answer_meant _ _ _ c.by_number.ensures _
    (write_unsound _ _ _ _ _ (sym (bare_net _ _ refl _ c.table.ensures.0) ∙ c.in_err-table.was)))

pub file_length-length-requires : goal.file_length-length-requires
file_length-length-requires c =
    let held = bare_tabled _ _ refl _ c.table.ensures.0 c.in_ok-table.was _ c.table.ensures.1 in
    tabled-small _ _ _ c.args.file.now _ held _ c.links_in.ensures

pub returns-in_err-refuse_if : goal.returns-in_err-refuse_if
returns-in_err-refuse_if c =
    let held = bare_tabled _ _ refl _ c.table.ensures.0 c.in_ok-table.was _ c.table.ensures.1 in
    rw (handed _ _ c.from_residual-in_err-refuse_if.ensures.1)
    (answer_meant _ _ _ c.by_number.ensures _
    (tabled-refused _ _ _ _ _ held _ c.links_in.ensures _ c.file_length-length.ensures _ c.refuse_if.ensures _ c.in_err-refuse_if.was))

pub write_blocks-requires : goal.write_blocks-requires
write_blocks-requires c =
    let held = bare_tabled _ _ refl _ c.table.ensures.0 c.in_ok-table.was _ c.table.ensures.1 in (
      held,
      tabled-room _ _ _ c.args.file.now _ held _ c.links_in.ensures _ c.file_length-length.ensures _ c.refuse_if.ensures
          c.in_ok-refuse_if.was,
    )

pub returns : goal.returns
returns c =
    let held = bare_tabled _ _ refl _ c.table.ensures.0 c.in_ok-table.was _ c.table.ensures.1 in
    answer_meant _ _ _ c.by_number.ensures _
    (tabled_written _ _ _ _ _ held _ c.links_in.ensures _ c.file_length-length.ensures _ c.refuse_if.ensures c.in_ok-refuse_if.was _
    c.write_blocks.ensures)
