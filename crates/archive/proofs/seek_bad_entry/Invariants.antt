-- The loop of `archive::seek_bad_entry`: what it keeps. Assumes nothing.
use mathlib.Core.Path.{◌≡◌}
use mathlib.Core.Bool.{false}
use Prim.Native.Nat.{ℕ, ◌<◌}
use Rattle.archive.specs.Work.{bad_by}
use Rattle.archive.proofs.seek_bad_entry.Given as goal

abbrev pub invariant-loop-x : goal.invariant-loop-x
invariant-loop-x l =
    (j : ℕ) → j < l.x → bad_by l.file l.m l.parents l.entries j ≡ false
