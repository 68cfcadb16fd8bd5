-- `forward::write_down` meets its contract. Assumes nothing.
use Rattle.forward.proofs.Writing.{falling_start, falling_room, falling_node, falling_more, falling_end}
use native.Mathlib.Omega.{arith}
use Rattle.forward.proofs.write_down.Goals as goal

pub loop-left-init : goal.loop-left-init
loop-left-init c =
    falling_start _ _ _ _ _ _ c.requires.0 c.requires.1 c.requires.2 c.requires.3

pub overflow_cast-row : goal.overflow_cast-row
overflow_cast-row c =
    omega (arith, falling_node _ c.loop-left.invariant)

pub bounds-row-at : goal.bounds-row-at
bounds-row-at c =
    falling_room _ c.loop-left.invariant (omega arith)

pub loop-left-preserved : goal.loop-left-preserved
loop-left-preserved c =
    falling_more _ c.loop-left.invariant (omega arith) c.up-node.ensures

pub returns : goal.returns
returns c =
    falling_end _ c.loop-left.invariant (omega arith)
