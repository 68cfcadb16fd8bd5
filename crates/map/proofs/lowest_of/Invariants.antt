-- The loop of `map::lowest_of`: what it keeps. Assumes nothing.
use Rattle.std.specs.Prelude.{None}
use Rattle.edition.specs.Limits.{map_words}
use Rattle.map.specs.Work.{some_in}
use Rattle.rows.proofs.Seeking.{Seeking}
use Rattle.map.proofs.lowest_of.Given as goal

abbrev pub invariant-loop-i : goal.invariant-loop-i
invariant-loop-i l =
    Seeking (some_in l.words) map_words l.i None
