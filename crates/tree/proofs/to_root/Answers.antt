-- `tree::to_root` meets its contract. Assumes nothing.
use Rattle.tree.proofs.InRows.{ascend_start, ascend_more, ascend_root, ascend_end}
use Rattle.tree.proofs.to_root.Goals as goal

pub loop-k-init : goal.loop-k-init
loop-k-init c =
    ascend_start _ _ _ c.args.net.short _ _ c.begin-c.ensures

pub returns-then-c-net : goal.returns-then-c-net
returns-then-c-net c =
    ascend_root _ _ _ c.args.net.short _ _ _ c.loop-k.invariant c.loop-k-test.true c.if-c-net.true

pub loop-k-preserved : goal.loop-k-preserved
loop-k-preserved c =
    ascend_more _ _ _ c.args.net.short _ _ _ c.loop-k.invariant (c.requires)
    c.loop-k-test.true c.if-c-net.false _ c.step-c.ensures

pub returns : goal.returns
returns c =
    ascend_end _ _ _ c.args.net.short _ _ _ c.loop-k.invariant
    c.loop-k-test.false
