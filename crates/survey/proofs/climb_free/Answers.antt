-- `survey::climb_free` meets its contract. Assumes nothing.
use Rattle.network.specs.Network.{net_of}
use Rattle.tree.specs.Tree.{tree_of}
use Rattle.survey.proofs.Free.{climbing_start, climbing_more, climbing_found, climbing_none}
use Rattle.survey.proofs.climb_free.Goals as goal

pub loop-k-init : goal.loop-k-init
unfolding tree_of net_of
loop-k-init c =
    climbing_start _ _ _ _ c.requires.3

pub returns-then-seats-v-ne0 : goal.returns-then-seats-v-ne0
unfolding tree_of net_of
returns-then-seats-v-ne0 c =
    climbing_found _ _ _ _ _ _ _ c.loop-k.invariant c.loop-k-test.true c.if-seats-v-ne0.true

pub loop-k-preserved : goal.loop-k-preserved
unfolding tree_of net_of
loop-k-preserved c =
    climbing_more _ _ _ _ _ _ _ c.loop-k.invariant c.requires.0
    c.loop-k-test.true c.requires.2 c.requires.4 c.if-seats-v-ne0.false _ c.up-v.ensures

pub returns : goal.returns
unfolding tree_of net_of
returns c =
    climbing_none _ _ _ _ _ _ _ c.loop-k.invariant c.loop-k-test.false
