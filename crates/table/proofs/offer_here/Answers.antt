-- `table::offer_here` meets its contract. Assumes nothing.
use Rattle.table.proofs.Offering.{bidding}
use Rattle.table.proofs.offer_here.Goals as goal

pub costs_of-c-requires : goal.costs_of-c-requires
costs_of-c-requires c =
    (c.requires.0, c.args.e, c.requires.2.costing)

pub is_worth-requires : goal.is_worth-requires
is_worth-requires c =
    let it = c.requires.2 in
    (c.requires.0, c.args.links.now, c.requires.1, c.args.survey.now, c.args.e, c.args.k, it, c.costs_of-c.ensures _ _ it.costing)

pub standing_at-standing-requires : goal.standing_at-standing-requires
standing_at-standing-requires c =
    let it = c.requires.2 in
    let priced = c.costs_of-c.ensures _ _ it.costing in
    let worth = (c.is_worth.ensures _ _ _ _ _ _ it priced).yes c.if-is_worth.true in
    (c.requires.0, c.requires.1, c.args.ranks.now, c.args.e, c.args.k, c.args.side, bidding it priced worth c.bid_of-bid.ensures)

pub offer_at-requires : goal.offer_at-requires
offer_at-requires c =
    let it = c.requires.2 in
    let priced = c.costs_of-c.ensures _ _ it.costing in
    let worth = (c.is_worth.ensures _ _ _ _ _ _ it priced).yes c.if-is_worth.true in (
      c.requires.0,
      c.args.links.now,
      c.requires.1,
      c.args.survey.now,
      c.args.ranks.now,
      c.args.k,
      c.args.side,
      bidding it priced worth c.bid_of-bid.ensures,
    )

pub returns-then-is_worth : goal.returns-then-is_worth
returns-then-is_worth c =
    λ g asked h.
    let priced = c.costs_of-c.ensures g _ h.costing in
    let worth = (c.is_worth.ensures g _ asked _ _ _ h priced).yes c.if-is_worth.true in
    let bid = bidding h priced worth c.bid_of-bid.ensures in
    c.offer_at.ensures g _ asked _ _ _ _ bid (c.standing_at-standing.ensures g asked _ _ _ _ bid)

pub returns-else-is_worth : goal.returns-else-is_worth
returns-else-is_worth c =
    λ g asked h. (c.is_worth.ensures g _ asked _ _ _ h (c.costs_of-c.ensures g _ h.costing)).no c.if-is_worth.false
