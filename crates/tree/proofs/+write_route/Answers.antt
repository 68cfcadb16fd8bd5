-- `tree::write_route`, by recursion on the nodes left to go. Assumes nothing.
use Rattle.tree.proofs.Writing.{routed_none, routed_root, routed_more}
use Rattle.tree.proofs.+write_route.Goals as goal

pub returns-then-left-eq0 : goal.returns-then-left-eq0
returns-then-left-eq0 t c = routed_none _ _ _ _ _ _ _ c.if-left-eq0.true

pub returns-then-u-net : goal.returns-then-u-net
returns-then-u-net t c = routed_root _ _ _ _ _ _ _ c.if-left-eq0.false c.if-u-net.true

pub returns : goal.returns
returns t c =
    routed_more _ _ _ _ _ _
    c.args.net.now.short
    _ c.if-left-eq0.false c.if-u-net.false _ _ _ c.rise-w.ensures c.up-p.ensures _ c.write_route.ensures
