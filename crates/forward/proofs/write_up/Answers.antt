-- `forward::write_up` meets its contract. Assumes nothing.
use Rattle.forward.proofs.Writing.{rising-start, rising-room, rising-low, rising-node, rising-more, rising_less, rising-end}
use native.Mathlib.Omega.{arith}
use Rattle.forward.proofs.write_up.Goals as goal

pub loop-node-init : goal.loop-node-init
loop-node-init c =
    rising-start _ _ _ _ _ c.requires.0 c.requires.1 c.requires.2

pub overflow_cast-row : goal.overflow_cast-row
overflow_cast-row c =
    omega (arith, rising-node _ c.loop-node.invariant)

pub offset_bounds-row-k : goal.offset_bounds-row-k
offset_bounds-row-k c =
    omega (arith, rising-low _ c.loop-node.invariant)

pub bounds-row-k : goal.bounds-row-k
bounds-row-k c =
    rising-room _ c.loop-node.invariant

pub overflow_add-k : goal.overflow_add-k
overflow_add-k c =
    omega (arith, rising-low _ c.loop-node.invariant)

pub loop-node-smaller : goal.loop-node-smaller
loop-node-smaller c =
    rising_less _ c.loop-node.invariant c.loop-node-test.true c.up-node.ensures

pub loop-node-preserved : goal.loop-node-preserved
loop-node-preserved c =
    rising-more _ c.loop-node.invariant c.loop-node-test.true c.up-node.ensures

pub overflow_cast-row-2 : goal.overflow_cast-row-2
overflow_cast-row-2 c =
    omega (arith, rising-node _ c.loop-node.invariant, c.loop-node-test.false)

pub returns : goal.returns
returns c =
    rising-end _ c.loop-node.invariant c.loop-node-test.false
