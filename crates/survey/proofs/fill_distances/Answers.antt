-- `survey::fill_distances` meets its contract. Assumes nothing.
use native.Mathlib.Omega.{arith}
use Rattle.network.specs.Network.{net_of}
use Rattle.tree.specs.Tree.{tree_of}
use Rattle.survey.proofs.Down.{down-start, down-end, down_next, down-more}
use Rattle.survey.proofs.fill_distances.Goals as goal

pub loop-v-init : goal.loop-v-init
unfolding tree_of net_of
loop-v-init c =
    λ o. down-start _ _ o _ _ c.requires.2

pub next_distance-requires : goal.next_distance-requires
unfolding tree_of net_of
next_distance-requires c =
    (down_next _ _ c.requires.0 _ _ _ _ (c.loop-v.invariant c.requires.0) (omega arith), c.requires.0.closed.few)

pub loop-v-preserved : goal.loop-v-preserved
unfolding tree_of net_of
loop-v-preserved c =
    λ o. down-more _ _ o _ _ _ _ (c.loop-v.invariant o) (omega arith) _ c.next_distance.ensures

pub returns : goal.returns
unfolding tree_of net_of
returns c =
    down-end _ _ c.requires.0 _ _ _ _ (c.loop-v.invariant c.requires.0) (omega arith)
