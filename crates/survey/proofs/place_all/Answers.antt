-- `survey::place_all` meets its contract. Assumes nothing.
use Rattle.network.specs.Network.{net_of}
use Rattle.tree.specs.Tree.{tree_of}
use Rattle.survey.proofs.Whole.{turning_start, turning_end, turning_lost, turning_ready, turning_more}
use Rattle.survey.proofs.place_all.Goals as goal

pub loop-u-init : goal.loop-u-init
unfolding tree_of net_of
loop-u-init c =
    turning_start _ c.requires.0 _ _ _ c.requires.1

pub returns-in_default : goal.returns-in_default
unfolding tree_of net_of
returns-in_default c =
    turning_lost _ c.requires.0 _ _ _ _ _ _ _ _ c.loop-u.invariant _ c.climb_free.auto.path c.loop-u-test.true c.in_default.ensures

pub loop-u-preserved : goal.loop-u-preserved
unfolding tree_of net_of
loop-u-preserved c =
    let ready =
    turning_ready _ c.requires.0 _ _ _ _ _ _ _ _ c.loop-u.invariant _ c.climb_free.auto.path c.loop-u-test.true
    _ c.in-Some.ensures c.requires.2 in
    turning_more _ c.requires.0 _ _ _ _ _ _ _ _ c.loop-u.invariant _ c.climb_free.auto.path c.loop-u-test.true
    _ c.in-Some.ensures c.requires.2 _ _ _
    c.settle-m.auto.order c.settle-m.auto.seats (c.settle-m.ensures _ _ ready)

pub returns : goal.returns
unfolding tree_of net_of
returns c =
    turning_end _ c.requires.0 _ _ _ _ _ _ _ _ c.loop-u.invariant c.loop-u-test.false
