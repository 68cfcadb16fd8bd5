-- `table::join_up` meets its contract. Assumes nothing.
use Rattle.table.proofs.Joining.{climbs, writing_start, writing_more, writing_end}
use Rattle.table.proofs.join_up.Goals as goal

pub loop-ranks-init : goal.loop-ranks-init
loop-ranks-init c =
    λ g asked h q. writing_start h q

pub loop-ranks-smaller : goal.loop-ranks-smaller
loop-ranks-smaller c =
    let i = c.loop-ranks.invariant _ _ c.requires.2 c.requires.3 in climbs i.partly i.low c.loop-ranks-test.true c.known_at-c.ensures

pub loop-ranks-preserved : goal.loop-ranks-preserved
loop-ranks-preserved c =
    λ g asked h q. writing_more h q (c.loop-ranks.invariant g asked h q) c.loop-ranks-test.true c.known_at-c.ensures

pub returns : goal.returns
returns c =
    λ g asked h q. writing_end h q (c.loop-ranks.invariant g asked h q) c.loop-ranks-test.false
