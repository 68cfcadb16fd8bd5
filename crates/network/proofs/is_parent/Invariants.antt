-- The loop of `network::is_parent`: what it keeps and what falls. Assumes nothing.
use Prim.Native.Nat.{◌-◌}
use lib.ListN.{length}
use Rattle.network.proofs.Naming.{Unnamed}
use Rattle.network.proofs.is_parent.Given as goal

abbrev pub invariant-loop-u : goal.invariant-loop-u
invariant-loop-u l =
    Unnamed l.parents l.e l.u

abbrev pub decreases-loop-u : goal.decreases-loop-u
decreases-loop-u l =
    length l.parents - l.u
