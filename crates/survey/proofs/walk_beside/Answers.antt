-- `survey::walk_beside` meets its contract. Assumes nothing.
use Prim.Native.Nat.{◌-◌}
use Rattle.survey.proofs.Siding.{side_node, side_up, side_more, side_end}
use native.Mathlib.Omega.{arith}
use Rattle.survey.proofs.walk_beside.Goals as goal

pub put_beside-requires : goal.put_beside-requires
put_beside-requires c = (
  side_node _ _ c.requires.2 _ _ _ (c.loop-i.invariant c.requires.0 c.requires.1 c.requires.2 c.requires.3) (c.loop-i.i - 1) (omega arith),
  side_up _ _ c.requires.2 _ _ _ (c.loop-i.invariant c.requires.0 c.requires.1 c.requires.2 c.requires.3) (c.loop-i.i - 1) (omega arith)
      (omega arith),
)

pub loop-i-preserved : goal.loop-i-preserved
loop-i-preserved c =
    λ t before b h. side_more _ _ b _ _ _ (c.loop-i.invariant t before b h) (c.loop-i.i - 1) (omega arith) (omega arith) _ c.put_beside.ensures

pub returns : goal.returns
returns c =
    λ t before b h. side_end _ _ b _ _ _ (c.loop-i.invariant t before b h) (omega arith) _ c.clear_beside.ensures
