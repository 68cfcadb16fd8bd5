-- The loop of `map::count_of`: what it keeps. Assumes nothing.
use mathlib.Core.Path.{◌≡◌}
use lib.Count.{ones}
use lib.ListN.{get_or}
use Rattle.rows.specs.Count.{sum_to}
use Rattle.map.proofs.count_of.Given as goal

abbrev pub invariant-loop-i : goal.invariant-loop-i
invariant-loop-i l =
    l.total ≡ sum_to (λ i. ones (get_or l.words i 0)) l.i
