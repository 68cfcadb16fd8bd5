-- `archive::write_block` meets its contract. Assumes nothing.
use native.Mathlib.Omega.{arith}
use Rattle.archive.proofs.Blocks.{block_number, part_held, block_made}
use Rattle.archive.proofs.WriterAnswer.{few-nodes, few-links}
use Rattle.archive.proofs.Parting.{part_small}
use Rattle.archive.proofs.write_block.Goals as goal

pub part_at-part-requires : goal.part_at-part-requires
part_at-part-requires c = (
  omega (arith, few-nodes _ _ _ c.requires.0.ok),
  omega (arith, few-links _ _ _ c.requires.0.ok, c.links_in.ensures),
  omega
      (arith, block_number _ _ _ _ c.requires.0 _ c.requires.1),
)

pub put_records-requires : goal.put_records-requires
put_records-requires c = (
  part_held _ _ _ _ c.requires.0 _ c.requires.1 _ c.links_in.ensures _ c.part_at-part.ensures _ c.requires.2,
  few-nodes _ _ _
      c.requires.0.ok,
  few-links _ _ _ c.requires.0.ok,
)

pub overflow_cast-i : goal.overflow_cast-i
overflow_cast-i c =
    omega (arith, block_number _ _ _ _ c.requires.0 _ c.requires.1)

pub overflow_cast-part : goal.overflow_cast-part
overflow_cast-part c =
    omega (arith, part_small _ _ _ _ c.part_at-part.ensures)

pub returns : goal.returns
returns c =
    block_made _ _ _ _ c.requires.0 _ c.requires.1 _ c.links_in.ensures _ c.part_at-part.ensures _ _ _ c.requires.2 c.put_records.ensures c.seal.ensures
