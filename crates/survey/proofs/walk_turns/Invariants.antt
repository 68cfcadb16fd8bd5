-- The loop of `survey::walk_turns`: what it keeps. Assumes nothing.
use Rattle.survey.proofs.Holding.{Walk}
use Rattle.survey.specs.Work.{Basis, Held, Split, Sided, Told}
use Rattle.tree.specs.Tree.{Tree}
use mathlib.Core.List.{List}
use Prim.Native.Nat.{ℕ}
use Rattle.survey.proofs.walk_turns.Given as goal

abbrev pub invariant-loop-i : goal.invariant-loop-i
invariant-loop-i l =
    (t : Tree) (before : List ℕ) (b : Basis t l.order)
    → Held t.size before (Sided t) l.initial.row → Walk t before 1 (Split (Told t) (Sided t) b.ordered.place) l.i l.row
