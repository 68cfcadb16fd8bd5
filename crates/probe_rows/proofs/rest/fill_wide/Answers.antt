-- `probe_rows::rest::fill_wide` meets its contract. Assumes nothing.
use Rattle.probe_rows.proofs.Keeping.{filled_with}
use Rattle.probe_rows.proofs.rest.fill_wide.Goals as goal

pub returns : goal.returns
returns c =
    filled_with _ _ _ (c.fill.ensures.after (λ y e. e))
