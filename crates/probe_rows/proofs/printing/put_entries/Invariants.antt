-- The loop of `probe_rows::printing::put_entries`: what it keeps. Assumes nothing.
use lib.ListN.{length}
use Prim.Native.Nat.{◌≤◌}
use Rattle.probe_rows.proofs.printing.put_entries.Given as goal

abbrev pub invariant-loop-u : goal.invariant-loop-u
invariant-loop-u l =
    l.waits ≤ length l.out
