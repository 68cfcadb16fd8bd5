-- `sound::survey_tree` meets its contract. Assumes nothing.
use Rattle.rows.proofs.Refusing.{handed_on}
use Rattle.sound.proofs.Surveying.{walk_refused, walk_ended, walk_done}
use Rattle.sound.proofs.survey_tree.Goals as goal

pub returns-in_err-fill : goal.returns-in_err-fill
returns-in_err-fill c =
    rw (handed_on _ _ _ c.from_residual.ensures.1 c.in_err-fill.was) (
    walk_refused _ _ _ c.requires.0 _ c.requires.1 _ _ c.fill.ensures _ c.in_err-fill.was)

pub first_breaking_in-requires : goal.first_breaking_in-requires
first_breaking_in-requires c =
    walk_ended _ _ _ c.requires.0 _ c.requires.1 _ _ c.fill.ensures c.in_ok-fill.was

pub returns : goal.returns
returns c =
    walk_done _ _ _ c.requires.0 _ c.requires.1 _ _ c.fill.ensures
    c.in_ok-fill.was _ c.first_breaking_in.ensures _
    c.refused_at.ensures
