-- `rows::lowest` meets its contract. Assumes nothing.
use Rattle.std.proofs.Common.{arith}
use Rattle.rows.proofs.Passing.{lowest_here, lowest_none}
use Rattle.rows.proofs.lowest.Goals as goal

pub returns-then-passes : goal.returns-then-passes
returns-then-passes g c =
    λ p told. lowest_here (λ k b. goal.F-post g c.args.passes k b) c.args.n p told _ c.loop-k-test.true c.loop-k.invariant.1 c.if-passes.ensures

pub returns : goal.returns
returns g c =
    λ p told. lowest_none (λ k b. goal.F-post g c.args.passes k b) c.args.n p told (λ j l. c.loop-k.invariant.1 j (omega (arith, l, c.loop-k-test.false)))
