-- `survey::walk_up` meets its contract. Assumes nothing.
use Prim.Native.Nat.{◌-◌}
use Rattle.survey.proofs.Raising.{raise_start, raise_end, raise_adds, raise_more}
use native.Mathlib.Omega.{arith}
use Rattle.survey.proofs.walk_up.Goals as goal

pub loop-i-init : goal.loop-i-init
loop-i-init c =
    λ t before b h. raise_start _ _ b _ _ h

pub add_to_parent-requires : goal.add_to_parent-requires
add_to_parent-requires c =
    raise_adds _ _ c.requires.2 _ _ _ (c.loop-i.invariant c.requires.0 c.requires.1 c.requires.2 c.requires.3) (c.loop-i.i - 1) (omega arith) (omega arith)

pub loop-i-preserved : goal.loop-i-preserved
loop-i-preserved c =
    λ t before b h. raise_more _ _ b _ _ _ (c.loop-i.invariant t before b h) (c.loop-i.i - 1) (omega arith) (omega arith) _ c.add_to_parent.ensures

pub returns : goal.returns
returns c =
    λ t before b h. raise_end _ _ b _ _ _ (c.loop-i.invariant t before b h) (omega arith)
