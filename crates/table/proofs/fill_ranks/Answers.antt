-- `table::fill_ranks` meets its contract. Assumes nothing.
use Rattle.std.proofs.Common.{[]}
use Rattle.table.proofs.Joining.{few_ranks, partly-start}
use Rattle.table.proofs.fill_ranks.Goals as goal

pub mark_ranks-requires : goal.mark_ranks-requires
mark_ranks-requires c =
    (few_ranks c.requires.1 [], c.requires.1.room)

pub join_ranks-requires : goal.join_ranks-requires
join_ranks-requires c =
    (c.requires.0, c.args.asked.now, partly-start c.requires.1 _ c.mark_ranks.ensures, c.requires.1.nodes-is)

pub returns : goal.returns
returns c =
    λ g h. c.join_ranks.ensures _ _ (partly-start h _ c.mark_ranks.ensures) h.nodes-is
