-- `table::own_rank` meets its contract. Assumes nothing.
use Rattle.table.proofs.Ranks.{rank_is}
use Rattle.table.proofs.own_rank.Goals as goal

pub returns : goal.returns
returns c =
    rank_is _ c.known_at-k.ensures
