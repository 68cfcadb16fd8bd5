-- `archive::write_blocks` meets its contract. Assumes nothing.
use Prim.Native.Nat.{◌-◌, ◌*◌, ◌+◌}
use Rattle.archive.proofs.WriterLoop.{filed, filed_room, filed_more}
use mathlib.Core.Path.{ap, ◌∙◌}
use native.Mathlib.Omega.{arith}
use Rattle.archive.proofs.WriterAnswer.{file_room, rows_sized, nodes-small, links-small, count_of, file_is}
use Rattle.edition.specs.Stored.{block_bytes}
use Rattle.archive.proofs.write_blocks.Goals as goal

pub block_count-count-requires : goal.block_count-count-requires
block_count-count-requires c =
    (nodes-small _ _ _ c.requires.0.ok, links-small _ _ _ c.requires.0.ok _ c.links_in.ensures)

pub slice_bounds-write_block-end : goal.slice_bounds-write_block-end
slice_bounds-write_block-end c =
    filed_room _ _ _ (file_room _ _ _ _ c.requires.1) (rows_sized _ _ _ _ c.requires.0) _ _ c.loop-i.invariant
    (omega (arith, count_of _ _ _ c.links_in.ensures c.block_count-count.ensures))

pub loop-i-preserved : goal.loop-i-preserved
loop-i-preserved c =
    filed_more _ _ _ (file_room _ _ _ _ c.requires.1) (rows_sized _ _ _ _ c.requires.0) _ _ c.loop-i.invariant
    (omega (arith, count_of _ _ _ c.links_in.ensures c.block_count-count.ensures)) _ c.write_block.ensures
    (c.loop-i.i * block_bytes + block_bytes - c.loop-i.i * block_bytes) (omega arith)

pub returns : goal.returns
returns c =
    let count = count_of _ _ _ c.links_in.ensures c.block_count-count.ensures in
    file_is _ _ _ _ _ (c.loop-i.invariant ∙ ap (filed _ c.args.file.now) (omega (arith, count)))
