-- The loop of `archive::put_records`: what it keeps. Assumes nothing.
use mathlib.Core.Path.{◌≡◌}
use Rattle.archive.specs.Work.{record_by}
use Rattle.archive.proofs.Laying.{laid_to}
use Rattle.archive.proofs.put_records.Given as goal

abbrev pub invariant-loop-r : goal.invariant-loop-r
invariant-loop-r l =
    l.block ≡ laid_to (record_by l.net.links.now l.net.parents.now l.net.search l.entries l.part.kind) l.part.from l.initial.block l.r
