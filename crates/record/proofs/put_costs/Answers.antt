-- `record::put_costs` meets its contract. Assumes nothing.
use Rattle.numbers.proofs.Putting.{put_first, put_next}
use native.Mathlib.Omega.{arith}
use Rattle.record.proofs.put_costs.Goals as goal

pub returns : goal.returns
returns c =
    (put_next _ _ _ _ _ _ _ _ _ (put_next _ _ _ _ _ _ _ _ _ (put_first _ _ _ _ _ c.put_number.ensures) c.put_number-2.ensures (omega arith))
    c.put_number-3.ensures (omega arith)).is
