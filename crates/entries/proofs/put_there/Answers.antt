-- `entries::put_there` meets its contract. Assumes nothing.
use native.Mathlib.Omega.{arith}
use native.Mathlib.Numerals.{towards_suc}
use Rattle.entries.specs.Row.{entry_row}
use Rattle.entries.proofs.Numbers.{add-nine, put_stored}
use Rattle.entries.proofs.put_there.Goals as goal

pub returns : goal.returns
unfolding entry_row
returns c =
    simp (towards_suc, add-nine) (put_stored _ _ (omega arith) _)
