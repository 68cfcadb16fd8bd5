-- The loop of `probe_files::reading::put_links`: what it keeps. Assumes nothing.
use lib.ListN.{length}
use Prim.Native.Nat.{◌≤◌}
use Rattle.probe_files.proofs.reading.put_links.Given as goal

abbrev pub invariant-loop-e : goal.invariant-loop-e
invariant-loop-e l =
    l.waits ≤ length l.out
