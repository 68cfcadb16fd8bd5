-- The loop of `table::clear_asked`: what it keeps. Assumes nothing.
use Rattle.table.proofs.Searching.{up_to_node}
use Rattle.table.specs.Work.{Entries, start_at}
use Rattle.entries.specs.Row.{standing}
use Rattle.std.proofs.Common.{length}
use Rattle.table.proofs.clear_asked.Given as goal

abbrev pub invariant-loop-x : goal.invariant-loop-x
invariant-loop-x l =
    Entries (length l.parents) (up_to_node l.x (start_at l.search.root l.asked l.initial.entries) (standing l.initial.entries)) l.initial.entries l.entries
