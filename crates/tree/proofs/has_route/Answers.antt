-- `tree::has_route` meets its contract. Assumes nothing.
use Rattle.std.proofs.Common.{eq-eqb, ne_eqb}
use Rattle.tree.proofs.Climbing.{finding_more, finding_found, finding_none}
use Rattle.network.specs.Network.{net_of}
use Rattle.tree.specs.Tree.{tree_of, has_route}
use Rattle.tree.proofs.has_route.Goals as goal

pub returns-then-node-net : goal.returns-then-node-net
unfolding has_route tree_of net_of
returns-then-node-net c =
    finding_found _ _ _ _ _ c.loop-k.invariant c.loop-k-test.true (eq-eqb _ _ c.if-node-net.true)

pub loop-k-preserved : goal.loop-k-preserved
unfolding tree_of net_of
loop-k-preserved c =
    finding_more _ _ _ _ _ c.loop-k.invariant c.loop-k-test.true (ne_eqb _ _ c.if-node-net.false) _ c.up-node.ensures

pub returns : goal.returns
unfolding has_route tree_of net_of
returns c =
    finding_none _ _ _ _ _ c.loop-k.invariant c.loop-k-test.false
