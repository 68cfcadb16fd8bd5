-- `survey::settle` meets its contract. Assumes nothing.
use Prim.Native.Nat.{◌-◌}
use native.Mathlib.Omega.{arith}
use Rattle.survey.proofs.Settling.{settling_end, settling_more, next_seat, next_order}
use Rattle.survey.proofs.settle.Goals as goal

pub bounds-order-m : goal.bounds-order-m
bounds-order-m c =
    next_order _ _ _ _ _ _ _ c.requires.2 _ _ _ _ (c.loop-i.invariant c.requires.0 c.requires.1 c.requires.2) (c.args.k - 1 - c.loop-i.i) (omega arith)

pub bounds-seats-v : goal.bounds-seats-v
bounds-seats-v c =
    next_seat _ _ _ _ _ _ _ c.requires.2 _ _ _ _ (c.loop-i.invariant c.requires.0 c.requires.1 c.requires.2) (c.args.k - 1 - c.loop-i.i) (omega arith)

pub loop-i-preserved : goal.loop-i-preserved
loop-i-preserved c =
    λ t u r. settling_more t u _ _ _ _ _ r _ _ _ _ (c.loop-i.invariant t u r) (c.args.k - 1 - c.loop-i.i) (omega arith) _ _ (omega arith) (omega arith)

pub returns : goal.returns
returns c =
    λ t u r. settling_end t u _ _ _ _ _ r _ _ _ _ (c.loop-i.invariant t u r) (omega arith) _ (omega arith)
