-- `survey::put_known` meets its contract. Assumes nothing.
use native.Mathlib.Omega.{arith}
use native.Mathlib.Numerals.{towards_suc}
use Rattle.survey.specs.Row.{known_row}
use Rattle.survey.proofs.Records.{put_stored}
use Rattle.survey.proofs.put_known.Goals as goal

pub returns : goal.returns
unfolding known_row
returns c =
    simp towards_suc (put_stored _ _ (omega arith) _)
