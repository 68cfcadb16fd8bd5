-- The loop of `table::carry_entry`: what it keeps. Assumes nothing.
use Rattle.std.proofs.Common.{◌≡◌}
use Rattle.table.specs.Prefix.{first_links}
use Rattle.network.specs.Network.{lent}
use Rattle.swap.specs.Entry.{entry}
use Rattle.table.proofs.carry_entry.Given as goal

abbrev pub invariant-loop-e : goal.invariant-loop-e
invariant-loop-e l =
    l.it ≡ entry (first_links (lent l.net) l.e) l.x
