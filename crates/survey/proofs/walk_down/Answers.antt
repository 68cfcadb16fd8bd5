-- `survey::walk_down` meets its contract. Assumes nothing.
use native.Mathlib.Omega.{arith}
use Rattle.network.specs.Network.{net_of}
use Rattle.tree.specs.Tree.{tree_of}
use Rattle.survey.proofs.Beginning.{begin_end, begin_under, begin_more}
use Rattle.survey.proofs.walk_down.Goals as goal

pub begun_at-k-requires : goal.begun_at-k-requires
unfolding tree_of net_of
begun_at-k-requires c =
    begin_under _ _ c.requires.0 _ _ _ (c.loop-v.invariant c.requires.0) (omega arith)

pub loop-v-preserved : goal.loop-v-preserved
unfolding tree_of net_of
loop-v-preserved c =
    λ o. begin_more _ _ o _ _ _ (c.loop-v.invariant o) (omega arith) _ c.begun_at-k.ensures _ c.put_known.ensures

pub returns : goal.returns
unfolding tree_of net_of
returns c =
    begin_end _ _ c.requires.0 _ _ _ (c.loop-v.invariant c.requires.0) (omega arith)
