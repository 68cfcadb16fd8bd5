-- The loop of `archive::copy_entries`: what it keeps. Assumes nothing.
use mathlib.Core.Path.{◌≡◌}
use Rattle.archive.specs.Work.{copied}
use Rattle.archive.proofs.copy_entries.Given as goal

abbrev pub invariant-loop-x : goal.invariant-loop-x
invariant-loop-x l =
    l.row ≡ copied l.from l.x l.initial.row
