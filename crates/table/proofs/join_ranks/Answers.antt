-- `table::join_ranks` meets its contract. Assumes nothing.
use Rattle.table.proofs.Joining.{turning_start, turning_up, turning_more, turning_end}
use Rattle.table.proofs.join_ranks.Goals as goal

pub loop-u-init : goal.loop-u-init
loop-u-init c =
    λ g asked p q. turning_start p q

pub find_rank-a-requires : goal.find_rank-a-requires
find_rank-a-requires c =
    (c.requires.0, c.requires.1, turning_up c.requires.2 c.requires.3 (c.loop-u.invariant _ _ c.requires.2 c.requires.3) c.loop-u-test.true)

pub join_up-requires : goal.join_up-requires
join_up-requires c =
    let up =
    turning_up c.requires.2 c.requires.3 (c.loop-u.invariant _ _ c.requires.2 c.requires.3) c.loop-u-test.true in
    (c.requires.0, c.requires.1, up, c.find_rank-a.ensures _ _ up)

pub loop-u-preserved : goal.loop-u-preserved
loop-u-preserved c =
    λ g asked p q.
    let i = c.loop-u.invariant g asked p q in
    let up = turning_up p q i c.loop-u-test.true in
    turning_more p q i (c.join_up.ensures _ _ up (c.find_rank-a.ensures _ _ up)) c.join_up.auto.ranks

pub returns : goal.returns
returns c =
    λ g asked p q. turning_end p q (c.loop-u.invariant g asked p q) c.loop-u-test.false
