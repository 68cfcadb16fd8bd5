-- `table::search_asked` meets its contract. Assumes nothing.
use Rattle.table.proofs.Searching.{searching-start, fresh_end}
use Rattle.table.proofs.Joining.{ranking}
use Rattle.table.proofs.search_asked.Goals as goal

pub fill_ranks-requires : goal.fill_ranks-requires
fill_ranks-requires c =
    (_, ranking _ _ _ c.requires.0)

pub offer_links-requires : goal.offer_links-requires
offer_links-requires c =
    (c.args.asked.now, searching-start _ _ _ c.requires.0 (c.fill_ranks.ensures _ (ranking _ _ _ c.requires.0)) c.requires.1 c.clear_asked.ensures)

pub returns : goal.returns
returns c =
    fresh_end _ _ _ _ _ _ _ c.clear_asked.ensures
    (c.offer_links.ensures _
    (searching-start _ _ _ c.requires.0 (c.fill_ranks.ensures _ (ranking _ _ _ c.requires.0)) c.requires.1
    c.clear_asked.ensures))
