-- `table::offer_at` meets its contract. Assumes nothing.
use Rattle.table.proofs.Offering.{bid_there, offered_bid}
use Rattle.table.proofs.offer_at.Goals as goal

pub entry_there-old-requires : goal.entry_there-old-requires
entry_there-old-requires c =
    bid_there c.requires.7

pub put_there-requires : goal.put_there-requires
put_there-requires c =
    bid_there c.requires.7

pub returns : goal.returns
returns c =
    λ g links asked survey ranks k side h standing-is.
    offered_bid h c.entry_there-old.ensures c.is_within-near_enough.ensures standing-is c.with_link-new.ensures c.put_there.ensures
