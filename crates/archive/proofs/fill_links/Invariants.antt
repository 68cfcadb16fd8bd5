-- The loop of `archive::fill_links`: what it keeps. Assumes nothing.
use mathlib.Core.Path.{◌≡◌}
use Rattle.archive.specs.Work.{links_from}
use Rattle.archive.proofs.fill_links.Given as goal

abbrev pub invariant-loop-e : goal.invariant-loop-e
invariant-loop-e l =
    l.row ≡ links_from l.file l.e l.initial.row
