-- `block::is_dirty` meets its contract. Assumes nothing.
use Rattle.std.proofs.Common.{arith}
use Rattle.block.proofs.Passing.{some_between, none_between}
use Rattle.block.proofs.is_dirty.Goals as goal

pub returns-then-byte-ne0 : goal.returns-then-byte-ne0
returns-then-byte-ne0 c =
    some_between c.args.b.now c.args.from c.args.count c.requires _ c.loop-byte-test.true c.if-byte-ne0.true

pub returns : goal.returns
returns c =
    none_between c.args.b.now c.args.from c.args.count c.requires (λ j l. c.loop-byte.invariant j (omega (arith, l, c.loop-byte-test.false)))
