-- `table::offer_links` meets its contract. Assumes nothing.
use Rattle.table.proofs.Searching.{to_more, to_all, still-searching}
use Rattle.std.proofs.Common.{arith}
use Rattle.table.proofs.offer_links.Goals as goal

pub loop-e-preserved : goal.loop-e-preserved
loop-e-preserved c =
    λ asked h.
    let i = c.loop-e.invariant asked h in
    to_more _ _ _ _ _ _ _ i c.offer_link.auto.entries (c.offer_link.ensures asked (still-searching h i))

pub returns : goal.returns
returns c =
    λ asked h. to_all _ _ _ _ _ _ _ (omega (arith, c.links_in-e-end.ensures)) (c.loop-e.invariant asked h)
