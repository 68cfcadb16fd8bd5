-- The loop of `swapfile::take_text`: what it keeps and what falls. Assumes nothing.
use mathlib.Core.Path.{◌≡◌}
use lib.ListN.{length}
use Prim.Native.Nat.{◌-◌}
use Rattle.swapfile.proofs.take_text.Given as goal

abbrev pub invariant-loop-cursor : goal.invariant-loop-cursor
invariant-loop-cursor g l =
    (length l.links ≡ length l.initial.links) × (length l.parents ≡ length l.initial.parents)

abbrev pub decreases-loop-cursor : goal.decreases-loop-cursor
decreases-loop-cursor g l =
    length l.text - l.cursor.at
