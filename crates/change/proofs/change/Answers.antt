-- `change::change` meets its contract. Assumes nothing.
use Rattle.rows.proofs.Refusing.{handed_on}
use mathlib.Core.Path.{◌∙◌, sym}
use native.Mathlib.Omega.{arith}
use lib.ListN.{replicate}
use Rattle.survey.specs.Row.{known_room}
use Rattle.survey.proofs.Records.{full_room}
use Rattle.sound.proofs.Surveying.{surveyed}
use Rattle.change.proofs.Applying.{apply_sound, change-refused, change-taken}
use Rattle.change.proofs.change.Goals as goal

pub returns-in_err-judge : goal.returns-in_err-judge
returns-in_err-judge c =
    rw (handed_on _ _ _ c.from_residual.ensures.1 c.in_err-judge.was)
    (change-refused _ _ _ _ _ _ c.judge.ensures.0 _ c.in_err-judge.was)

pub apply-requires : goal.apply-requires
apply-requires c =
    let is_taken = sym c.judge.ensures.0 ∙ c.in_ok-judge.was in (
      is_taken,
      surveyed c.args.links.now c.args.parents.now c.args.search (λ i. grind arith) (replicate known_room 0) _ full_room
          (apply_sound _ _ _ _ _ is_taken) c.judge.ensures.1,
    )

pub returns : goal.returns
returns c =
    change-taken _ _ _ _ _ _ c.judge.ensures.0 c.in_ok-judge.was _ _ c.apply.ensures.0 c.apply.ensures.1
