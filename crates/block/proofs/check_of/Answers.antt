-- `block::check_of` meets its contract. Assumes nothing.
use native.Mathlib.Omega.{arith}
use borrow.Author.Rules.{rules}
use Rattle.block.proofs.Summing.{sum-start, sum_more, sum-end}
use Rattle.block.proofs.check_of.Goals as goal

pub loop-k-init : goal.loop-k-init
loop-k-init c =
    sum-start _

pub loop-k-preserved : goal.loop-k-preserved
loop-k-preserved c =
    sum_more _ c.requires _ _ c.loop-k.invariant c.loop-k-test.true _ c.word_at.ensures (search rules)

pub returns : goal.returns
returns c =
    sum-end _ c.requires _ _ c.loop-k.invariant (omega arith) _ c.folded.ensures
