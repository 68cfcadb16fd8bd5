-- The loop of `probe_rows::printing::put_bytes`: what it keeps. Assumes nothing.
use lib.ListN.{length}
use Prim.Native.Nat.{◌≤◌}
use Rattle.probe_rows.proofs.printing.put_bytes.Given as goal

abbrev pub invariant-loop-i : goal.invariant-loop-i
invariant-loop-i l =
    l.waits ≤ length l.out
