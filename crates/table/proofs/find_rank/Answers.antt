-- `table::find_rank` meets its contract. Assumes nothing.
use Rattle.table.proofs.Joining.{climbs, looking_more}
use Rattle.table.proofs.find_rank.Goals as goal

pub loop-c-smaller : goal.loop-c-smaller
loop-c-smaller c =
    let i = c.loop-c.invariant _ _ c.requires.2 in climbs c.requires.2.partly i.low c.loop-c-test.true c.known_at-c.ensures

pub loop-c-preserved : goal.loop-c-preserved
loop-c-preserved c =
    λ g asked h. looking_more h (c.loop-c.invariant g asked h) c.loop-c-test.true c.known_at-c.ensures
