-- `archive::check_blocks` meets its contract. Assumes nothing.
use mathlib.Core.Path.{sym, ◌∙◌}
use native.Mathlib.Omega.{arith}
use Rattle.rows.proofs.Refusing.{to_passes}
use Rattle.archive.proofs.BlockChecks.{refuses_at}
use Rattle.archive.proofs.check_blocks.Goals as goal

pub returns-then-count-i : goal.returns-then-count-i
returns-then-count-i c =
    sym (to_passes _ _ (λ j l. c.loop-i.invariant j (omega (arith, l, c.block_count-count.ensures, c.if-count-i.true))))

pub returns-in_default : goal.returns-in_default
returns-in_default c =
    c.in_default.is
    ∙ sym
    (refuses_at _ _ _ _ (omega (arith, c.block_count-count.ensures, c.if-count-i.false)) c.loop-i.invariant (sym c.check_part-here.ensures ∙ c.in_default.is))
