-- `table::refresh` meets its contract. Assumes nothing.
use Rattle.rows.proofs.Refusing.{handed_on}
use Rattle.std.proofs.Common.{replicate, ◌∙◌}
use Rattle.survey.specs.Row.{known_room}
use Rattle.network.specs.Network.{net_of}
use Rattle.survey.proofs.Records.{full_room}
use Rattle.sound.proofs.Surveying.{surveyed}
use Rattle.table.proofs.Whole.{table_sound, table-room, work_table, fresh_taken, fresh_refused}
use Rattle.table.proofs.refresh.Goals as goal

pub returns-in_err-survey_table : goal.returns-in_err-survey_table
unfolding net_of
returns-in_err-survey_table c =
    rw (handed_on _ _ _ c.from_residual.ensures.1 c.in_err-survey_table.was)
    (fresh_refused _ _ _ _ _ (c.survey_table.ensures.0 ∙ work_table _ _ (replicate known_room 0) full_room) c.in_err-survey_table.was)

pub refresh_surveyed-requires : goal.refresh_surveyed-requires
unfolding net_of
refresh_surveyed-requires c =
    let judged = c.survey_table.ensures.0 ∙ work_table _ _ (replicate known_room 0) full_room in (
      surveyed c.args.net.links.now c.args.net.parents.now c.args.net.search c.args.net.short
          (replicate known_room 0) _ full_room (table_sound _ _ _ judged c.in_ok-survey_table.was) c.survey_table.ensures.1,
      table-room _ _ _ judged c.in_ok-survey_table.was,
    )

pub returns : goal.returns
unfolding net_of
returns c =
    fresh_taken _ _ _ _ (c.survey_table.ensures.0 ∙ work_table _ _ (replicate known_room 0) full_room) c.in_ok-survey_table.was _
    c.refresh_surveyed.ensures
