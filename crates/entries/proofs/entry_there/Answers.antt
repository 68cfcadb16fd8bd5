-- `entries::entry_there` meets its contract. Assumes nothing.
use native.Mathlib.Omega.{arith}
use Rattle.entries.proofs.Numbers.{entry-there}
use Rattle.entries.proofs.entry_there.Goals as goal

pub returns : goal.returns
returns c =
    entry-there _ _ (omega arith)
