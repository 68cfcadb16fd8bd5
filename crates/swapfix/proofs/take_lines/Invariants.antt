-- The loop of `swapfix::take_lines`: what it keeps and what falls. Assumes nothing.
use mathlib.Core.Path.{◌≡◌}
use lib.ListN.{length}
use Prim.Native.Nat.{◌-◌}
use Rattle.swapfix.proofs.take_lines.Given as goal

abbrev pub invariant-loop-cursor : goal.invariant-loop-cursor
invariant-loop-cursor l =
    (length l.links ≡ length l.initial.links) × (length l.entries ≡ length l.initial.entries)

abbrev pub decreases-loop-cursor : goal.decreases-loop-cursor
decreases-loop-cursor l =
    length l.text - l.cursor.at
