-- `archive::check_file` meets its contract. Assumes nothing.
use Rattle.archive.proofs.ReadOrder.{small_sizes, blocks_there}
use Rattle.archive.proofs.check_file.Goals as goal

pub file_length-length-requires : goal.file_length-length-requires
file_length-length-requires c =
    small_sizes _ _ c.check_head.ensures c.in_ok-check_head.was _ c.header_of-head.ensures

pub check_blocks-requires : goal.check_blocks-requires
check_blocks-requires c =
    let small = small_sizes _ _ c.check_head.ensures c.in_ok-check_head.was _ c.header_of-head.ensures in (
      small.0,
      small.1,
      blocks_there _ _ c.check_head.ensures c.in_ok-check_head.was _ c.header_of-head.ensures _ c.file_length-length.ensures _
          c.refuse_if.ensures c.in_ok-refuse_if.was,
    )
