-- `sound::survey_network` meets its contract. Assumes nothing.
use Rattle.rows.proofs.Refusing.{handed_on}
use mathlib.Core.Path.{◌∙◌, sym}
use Rattle.sound.proofs.Plain.{plain_passed}
use Rattle.sound.proofs.Surveying.{narrow-is, narrow-room, narrow-refused, plain_refused, tree_surveyed}
use Rattle.sound.proofs.survey_network.Goals as goal

pub returns-in_err-refuse_if : goal.returns-in_err-refuse_if
returns-in_err-refuse_if c =
    rw (handed_on _ _ _ c.from_residual.ensures.1 c.in_err-refuse_if.was) (
    narrow-refused _ _ _
    (narrow-is _ _ c.nodes_in.ensures _ c.refuse_if.ensures) _
    c.in_err-refuse_if.was)

pub returns-in_err-check_plain : goal.returns-in_err-check_plain
returns-in_err-check_plain c =
    rw (handed_on _ _ _ c.from_residual-in_err-check_plain.ensures.1 c.in_err-check_plain.was) (
    plain_refused _ _ (sym (narrow-is _ _ c.nodes_in.ensures _ c.refuse_if.ensures) ∙ c.in_ok-refuse_if.was) _ c.check_plain.ensures _
    c.in_err-check_plain.was)

pub survey_tree-requires : goal.survey_tree-requires
survey_tree-requires c = (
  plain_passed _ (sym c.check_plain.ensures ∙ c.in_ok-check_plain.was),
  narrow-room c.args.survey.now (sym (narrow-is _ _ c.nodes_in.ensures _ c.refuse_if.ensures) ∙ c.in_ok-refuse_if.was),
)

pub returns : goal.returns
returns c =
    tree_surveyed _ _ (sym (narrow-is _ _ c.nodes_in.ensures _ c.refuse_if.ensures) ∙ c.in_ok-refuse_if.was)
    (sym c.check_plain.ensures ∙ c.in_ok-check_plain.was) _ _ c.survey_tree.ensures
