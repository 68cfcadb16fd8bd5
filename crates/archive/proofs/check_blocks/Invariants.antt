-- The loop of `archive::check_blocks`: what it keeps and what falls. Assumes nothing.
use mathlib.Core.Path.{◌≡◌}
use Prim.Native.Nat.{ℕ, ◌<◌, ◌-◌}
use Rattle.edition.specs.Refusals.{taken}
use Rattle.archive.specs.Reader.{block_refusal}
use Rattle.archive.proofs.check_blocks.Given as goal

abbrev pub invariant-loop-i : goal.invariant-loop-i
invariant-loop-i l =
    (j : ℕ) → j < l.i → block_refusal l.file l.n l.m j ≡ taken

abbrev pub decreases-loop-i : goal.decreases-loop-i
decreases-loop-i l =
    l.count - l.i
