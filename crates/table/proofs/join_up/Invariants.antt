-- The loop of `table::join_up`: what it keeps and what falls. Assumes nothing.
use Rattle.table.proofs.Joining.{room-up, Writing}
use Rattle.table.specs.Work.{Upward, rank}
use Rattle.tree.specs.Tree.{tree_of}
use Rattle.network.specs.Network.{Net}
use Rattle.std.proofs.Common.{◌≡◌, ℕ, List}
use Rattle.table.proofs.join_up.Given as goal

abbrev pub invariant-loop-ranks : goal.invariant-loop-ranks
invariant-loop-ranks l =
    (g : Net) (asked : List ℕ)
    → Upward g asked l.survey l.initial.ranks l.u → l.a ≡ rank (tree_of g) asked l.u
    → Writing g asked l.survey l.u l.initial.ranks l.c l.ranks

abbrev pub decreases-loop-ranks : goal.decreases-loop-ranks
decreases-loop-ranks l =
    room-up l.survey l.c
