-- The loop of `survey::walk_beside`: what it keeps. Assumes nothing.
use Rattle.survey.proofs.Holding.{Walk}
use Rattle.survey.specs.Work.{Basis, Held, Split, Summed, Sided}
use Rattle.tree.specs.Tree.{Tree}
use mathlib.Core.List.{List}
use Prim.Native.Nat.{ℕ}
use Rattle.survey.proofs.walk_beside.Given as goal

abbrev pub invariant-loop-i : goal.invariant-loop-i
invariant-loop-i l =
    (t : Tree) (before : List ℕ) (b : Basis t l.order)
    → Held t.size before (Summed t) l.initial.row → Walk t before 1 (Split (Summed t) (Sided t) b.ordered.place) l.i l.row
