-- `sound::verdict` meets its contract. Assumes nothing.
use Rattle.rows.proofs.Refusing.{handed_on, head_refuses, head_passes, only_one}
use mathlib.Core.Path.{◌∙◌, sym}
use Rattle.sound.proofs.Plain.{net_parts, plain_passed}
use Rattle.sound.proofs.verdict.Goals as goal

pub returns-in_err-check_plain : goal.returns-in_err-check_plain
returns-in_err-check_plain c =
    rw (handed_on _ _ _ c.from_residual.ensures.1 c.in_err-check_plain.was) (
    c.in_err-check_plain.was ∙ sym (sym (net_parts _) ∙ head_refuses _ _ _ (sym c.check_plain.ensures ∙ c.in_err-check_plain.was)))

pub check_tree-requires : goal.check_tree-requires
check_tree-requires c =
    plain_passed _ (sym c.check_plain.ensures ∙ c.in_ok-check_plain.was)

pub returns : goal.returns
returns c =
    c.check_tree.ensures
    ∙ sym
    (sym (net_parts _)
    ∙ head_passes _ _ (sym c.check_plain.ensures ∙ c.in_ok-check_plain.was)
    ∙ only_one _)
