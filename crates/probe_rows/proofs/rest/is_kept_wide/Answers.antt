-- `probe_rows::rest::is_kept_wide` meets its contract. Assumes nothing.
use Rattle.probe_rows.proofs.Keeping.{keep_all}
use Rattle.probe_rows.proofs.rest.is_kept_wide.Goals as goal

pub returns : goal.returns
returns c =
    keep_all _ _ _ _ c.loop-i.invariant c.loop-i-test.false
