-- `archive::check_head` meets its contract. Assumes nothing.
use native.Mathlib.Omega.{arith}
use Rattle.archive.proofs.HeadChecks.{first-there}
use Rattle.archive.proofs.check_head.Goals as goal

pub check_part-requires : goal.check_part-requires
check_part-requires c =
    (omega arith, omega arith, omega arith, first-there _ _ c.is_unequal.ensures _ c.refuse_if.ensures c.in_ok-refuse_if.was)
