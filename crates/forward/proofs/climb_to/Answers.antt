-- `forward::climb_to` meets its contract. Assumes nothing.
use Rattle.forward.proofs.Nodes.{homed, few_in}
use mathlib.Core.Path.{ap}
use mathlib.Core.Bool.{not}
use Rattle.tree.proofs.Onto.{onward_start, onward_end, onward_more, onward_less}
use Rattle.forward.proofs.Reaching.{top_ends, reached}
use Rattle.forward.proofs.climb_to.Goals as goal

pub loop-net-init : goal.loop-net-init
loop-net-init c =
    onward_start _ _ _ c.args.net.short (few_in _ _ _ c.requires) _ _ (homed _ c.requires) _ c.begin-c.ensures

pub loop-net-smaller : goal.loop-net-smaller
loop-net-smaller c =
    onward_less _ _ _ c.args.net.short (few_in _ _ _ c.requires) _ _ (homed _ c.requires) _ c.loop-net.invariant
    (top_ends _ _) _ c.is_end.ensures (ap not c.loop-net-test.true) _ c.step-c.ensures

pub loop-net-preserved : goal.loop-net-preserved
loop-net-preserved c =
    onward_more _ _ _ c.args.net.short (few_in _ _ _ c.requires) _ _ (homed _ c.requires) _ c.loop-net.invariant
    (top_ends _ _) _ c.is_end.ensures (ap not c.loop-net-test.true) _ c.step-c.ensures

pub returns : goal.returns
returns c =
    reached c.args.net.links.now c.args.net.parents.now c.args.net.search c.args.net.short _ _ c.requires _
    (onward_end _ _ _ c.args.net.short (few_in _ _ _ c.requires) _ _ (homed _ c.requires) _ c.loop-net.invariant _
    c.is_end.ensures (ap not c.loop-net-test.false))
