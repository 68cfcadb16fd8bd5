-- The loop of `survey::settle`: what it keeps. Assumes nothing.
use Prim.Native.Nat.{ℕ, ◌+◌, ◌-◌}
use Rattle.tree.specs.Tree.{Tree}
use Rattle.survey.specs.Work.{Ready}
use Rattle.survey.proofs.Settling.{Settling}
use Rattle.survey.proofs.settle.Given as goal

abbrev pub invariant-loop-i : goal.invariant-loop-i
invariant-loop-i l =
    (t : Tree) (u : ℕ)
    → Ready t u l.k l.m l.initial.order l.initial.seats l.path
    → Settling t l.initial.order l.initial.seats u l.k l.path (l.k - l.i) (l.m + l.i) l.order l.seats
