-- `table::with_crossed` meets its contract. Assumes nothing.
use Rattle.table.proofs.Carrying.{own_starts, first_starts, second_starts, rising, costing, carried}
use Rattle.table.proofs.with_crossed.Goals as goal

pub climb_to-side-requires : goal.climb_to-side-requires
climb_to-side-requires c =
    (c.requires.0, rising c.requires.1 (c.end_side.ensures _ (first_starts c.requires.1) (second_starts c.requires.1)))

pub costs_of-c-requires : goal.costs_of-c-requires
costs_of-c-requires c =
    let one = first_starts c.requires.1 in
    let two = second_starts c.requires.1 in
    let from = c.end_side.ensures _ one two in
    (c.requires.0, c.args.e, costing c.requires.1 from (c.climb_to-side.ensures _ (rising c.requires.1 from)) (c.way_through.ensures _ one two))

pub returns : goal.returns
returns c =
    λ g h was.
    let one = first_starts h in
    let two = second_starts h in
    let from = c.end_side.ensures g one two in
    let up = c.climb_to-side.ensures g (rising h from) in
    let through = c.way_through.ensures g one two in
    carried h from up through (c.costs_of-c.ensures g _ (costing h from up through)) c.is_within-near_enough.ensures
    (c.standing_of-standing.ensures g (own_starts h) h.reads) c.with_link.ensures was
