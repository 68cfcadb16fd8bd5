-- `survey::known_at` meets its contract. Assumes nothing.
use native.Mathlib.Omega.{arith}
use Rattle.survey.proofs.Records.{known-there}
use Rattle.survey.proofs.known_at.Goals as goal

pub returns : goal.returns
returns c =
    known-there _ _ (omega arith)
