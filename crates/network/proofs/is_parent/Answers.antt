-- `network::is_parent` meets its contract. Assumes nothing.
use Rattle.network.proofs.Naming.{named, unnamed_end}
use Rattle.network.proofs.is_parent.Goals as goal

pub returns-then-parent_of-e : goal.returns-then-parent_of-e
returns-then-parent_of-e c =
    named _ _ _ c.loop-u.invariant c.loop-u-test.true _ c.parent_of.ensures c.if-parent_of-e.true

pub returns : goal.returns
returns c =
    unnamed_end _ _ _ c.loop-u.invariant c.loop-u-test.false
