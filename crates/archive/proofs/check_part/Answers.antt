-- `archive::check_part` meets its contract. Assumes nothing.
use native.Mathlib.Omega.{arith}
use Prim.Native.Nat.{◌-◌, ◌*◌, ◌+◌}
use Rattle.archive.proofs.BlockChecks.{part_refusal}
use Rattle.edition.specs.Stored.{block_bytes}
use Rattle.archive.proofs.check_part.Goals as goal

pub returns : goal.returns
returns c =
    part_refusal _ _ _ _ _ c.part_at-part.ensures (c.args.i * block_bytes + block_bytes - c.args.i * block_bytes) (omega arith) _ c.check_block.ensures
