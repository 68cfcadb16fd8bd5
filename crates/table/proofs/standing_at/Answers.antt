-- `table::standing_at` meets its contract. Assumes nothing.
use Rattle.table.proofs.Offering.{bid_there, bid_starts, standing_bid}
use Rattle.table.proofs.standing_at.Goals as goal

pub entry_there-old-requires : goal.entry_there-old-requires
entry_there-old-requires c =
    bid_there c.requires.6

pub standing_of-requires : goal.standing_of-requires
standing_of-requires c =
    (c.requires.0, bid_starts c.requires.6, c.requires.6.offering.reads)

pub returns : goal.returns
returns c =
    λ g asked ranks e k side h. standing_bid h c.entry_there-old.ensures (c.standing_of.ensures g (bid_starts h) h.offering.reads)
