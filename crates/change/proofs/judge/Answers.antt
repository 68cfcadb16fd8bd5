-- `change::judge` meets its contract. Assumes nothing.
use Rattle.rows.proofs.Refusing.{handed_on}
use mathlib.Core.Path.{◌∙◌}
use Rattle.sound.proofs.Surveying.{surveyed}
use Rattle.table.proofs.Whole.{table_sound, work_table}
use Rattle.change.proofs.Applying.{first_refuses, second_refuses, third_refuses, link-there, fourth_refuses, fifth_decides}
use Rattle.change.proofs.judge.Goals as goal

pub returns-in_err-survey_table : goal.returns-in_err-survey_table
returns-in_err-survey_table c =
    rw (handed_on _ _ _ c.from_residual.ensures.1 c.in_err-survey_table.was)
    ((first_refuses _ _ _ _ _ _ (c.survey_table.ensures.0 ∙ work_table _ _ _ c.requires) _ c.in_err-survey_table.was, c.survey_table.ensures.1))

pub returns-in_err-refuse_if : goal.returns-in_err-refuse_if
returns-in_err-refuse_if c =
    rw (handed_on _ _ _ c.from_residual-in_err-refuse_if.ensures.1 c.in_err-refuse_if.was)
    ((
      second_refuses _ _ _ _ _ _ (c.survey_table.ensures.0 ∙ work_table _ _ _ c.requires) c.in_ok-survey_table.was _
          c.links_in.ensures _ c.refuse_if.ensures _ c.in_err-refuse_if.was,
      c.survey_table.ensures.1,
    ))

pub returns-in_err-refuse_if-2 : goal.returns-in_err-refuse_if-2
returns-in_err-refuse_if-2 c =
    rw (handed_on _ _ _ c.from_residual-in_err-refuse_if-2.ensures.1 c.in_err-refuse_if-2.was)
    ((
      third_refuses _ _ _ _ _ _ (c.survey_table.ensures.0 ∙ work_table _ _ _ c.requires) c.in_ok-survey_table.was _
          c.links_in.ensures _ c.refuse_if.ensures c.in_ok-refuse_if.was _
          c.bad_mark.ensures _ c.refuse_if-2.ensures _ c.in_err-refuse_if-2.was,
      c.survey_table.ensures.1,
    ))

pub returns-in_err-refuse_if-3 : goal.returns-in_err-refuse_if-3
returns-in_err-refuse_if-3 c =
    rw (handed_on _ _ _ c.from_residual-in_err-refuse_if-3.ensures.1 c.in_err-refuse_if-3.was)
    ((
      fourth_refuses _ _ _ _ _ _ (c.survey_table.ensures.0 ∙ work_table _ _ _ c.requires) c.in_ok-survey_table.was _
          c.links_in.ensures _ c.refuse_if.ensures c.in_ok-refuse_if.was _
          c.bad_mark.ensures _ c.refuse_if-2.ensures c.in_ok-refuse_if-2.was _ c.is_parent.ensures _ c.refuse_if-3.ensures _ c.in_err-refuse_if-3.was,
      c.survey_table.ensures.1,
    ))

pub breaks_short-requires : goal.breaks_short-requires
breaks_short-requires c =
    let judged = (c.survey_table.ensures.0 ∙ work_table _ _ _ c.requires) in (
      c.args.net.parents.now,
      c.args.net.search,
      record {
        surveyed =
            surveyed c.args.net.links.now c.args.net.parents.now c.args.net.search c.args.net.short c.args.survey.now _ c.requires
            (table_sound _ _ _ judged c.in_ok-survey_table.was) c.survey_table.ensures.1;
        there =
            link-there _ _ _ _ c.args.change _ judged c.in_ok-survey_table.was _ c.links_in.ensures _ c.refuse_if.ensures
            c.in_ok-refuse_if.was _ c.bad_mark.ensures _ c.refuse_if-2.ensures;
      },
    )

pub returns : goal.returns
returns c =
    let pre =
    c.requires
    in
    let judged = (c.survey_table.ensures.0 ∙ work_table _ _ _ pre) in (
      fifth_decides _ _ _ _ _ _ judged c.in_ok-survey_table.was _ c.links_in.ensures _ c.refuse_if.ensures c.in_ok-refuse_if.was _
          c.bad_mark.ensures _ c.refuse_if-2.ensures c.in_ok-refuse_if-2.was _ c.is_parent.ensures _ c.refuse_if-3.ensures
          c.in_ok-refuse_if-3.was _
          (c.breaks_short.ensures c.args.net.parents.now c.args.net.search
          (record {
            surveyed =
                surveyed c.args.net.links.now c.args.net.parents.now c.args.net.search c.args.net.short c.args.survey.now _ pre
                (table_sound _ _ _ judged c.in_ok-survey_table.was) c.survey_table.ensures.1;
            there =
                link-there _ _ _ _ c.args.change _ judged c.in_ok-survey_table.was _ c.links_in.ensures _ c.refuse_if.ensures
                c.in_ok-refuse_if.was _ c.bad_mark.ensures _ c.refuse_if-2.ensures;
          })) _ c.refuse_if-4.ensures,
      c.survey_table.ensures.1,
    )
