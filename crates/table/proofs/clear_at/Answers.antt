-- `table::clear_at` meets its contract. Assumes nothing.
use Rattle.table.proofs.Offering.{not-marked, is-marked}
use Rattle.table.proofs.clear_at.Goals as goal

pub returns-then-wide_at-eq0 : goal.returns-then-wide_at-eq0
returns-then-wide_at-eq0 c =
    rw (not-marked _ _ _ c.wide_at.ensures c.if-wide_at-eq0.true)

pub returns : goal.returns
returns c =
    rw (is-marked _ _ _ c.wide_at.ensures c.if-wide_at-eq0.false, ← c.first_entry.ensures) c.put_entry.ensures
