-- The loop of `rows::lowest`: what it keeps. Assumes nothing.
use Rattle.std.proofs.Common.{ℕ, ◌<◌, false}
use Rattle.rows.proofs.lowest.Given as goal

abbrev pub invariant-loop-k : goal.invariant-loop-k
invariant-loop-k g l = goal.F-IsAlwaysCallable g l.passes × ((j : ℕ) → j < l.k → goal.F-post g l.passes j false)
