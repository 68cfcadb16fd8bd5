-- `table::first_rank` meets its contract. Assumes nothing.
use Rattle.table.proofs.Joining.{first_asked, first-root, first-none}
use Rattle.table.proofs.Offering.{not-marked, is-marked}
use Rattle.std.proofs.Common.{sym, ◌∙◌}
use Rattle.table.proofs.first_rank.Goals as goal

pub returns-then-wide_at-ne0 : goal.returns-then-wide_at-ne0
returns-then-wide_at-ne0 c =
    c.own_rank.ensures ∙ sym (first_asked _ _ _ _ (is-marked _ _ _ c.wide_at.ensures c.if-wide_at-ne0.true))

pub returns-then-x-root : goal.returns-then-x-root
returns-then-x-root c =
    sym (first-root _ _ _ _ (not-marked _ _ _ c.wide_at.ensures c.if-wide_at-ne0.false) c.if-x-root.true)

pub returns : goal.returns
returns c =
    sym (first-none _ _ _ _ (not-marked _ _ _ c.wide_at.ensures c.if-wide_at-ne0.false) c.if-x-root.false)
