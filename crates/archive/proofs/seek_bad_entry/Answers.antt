-- `archive::seek_bad_entry` meets its contract. Assumes nothing.
use mathlib.Core.Path.{sym, ◌∙◌}
use native.Mathlib.Omega.{arith}
use Rattle.rows.proofs.Best.{nowhere, here, first-is, first_unique}
use Rattle.archive.proofs.seek_bad_entry.Goals as goal

pub returns-then-is_bad_entry : goal.returns-then-is_bad_entry
returns-then-is_bad_entry c =
    first_unique _ _ (here {e = c.loop-x.x} c.loop-x-test.true (sym c.is_bad_entry.ensures ∙ c.if-is_bad_entry.true) c.loop-x.invariant) (first-is _ _)

pub returns : goal.returns
returns c =
    first_unique _ _ (nowhere (λ j l. c.loop-x.invariant j (omega arith))) (first-is _ _)
