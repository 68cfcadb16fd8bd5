-- The loop of `probe_rows::rest::is_kept_wide`: what it keeps. Assumes nothing.
use Rattle.probe_rows.proofs.Keeping.{Keeping}
use Rattle.probe_rows.specs.Rest.{fill_mark}
use Rattle.probe_rows.proofs.rest.is_kept_wide.Given as goal

abbrev pub invariant-loop-i : goal.invariant-loop-i
invariant-loop-i l =
    Keeping fill_mark l.row l.from l.i
