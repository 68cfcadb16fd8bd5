-- `archive::check_write` meets its contract. Assumes nothing.
use Rattle.archive.proofs.WriterAnswer.{verdict_meant, sizes_small, room_judged}
use Rattle.sound.proofs.Handing.{handed-first}
use Rattle.archive.specs.Writer.{write_verdict}
use Rattle.archive.proofs.check_write.Goals as goal

pub returns-in_default : goal.returns-in_default
unfolding write_verdict
returns-in_default c =
    verdict_meant _ _ _ c.by_number.ensures c.args.file.now
    (handed-first _ _ c.check_network-said.ensures _ c.in_default.is _ _ c.handed_up.ensures)

pub file_length-length-requires : goal.file_length-length-requires
file_length-length-requires c =
    sizes_small _ _ _ c.args.file.now _ _ c.check_network-said.ensures c.in-Ok.is

pub returns : goal.returns
returns c =
    verdict_meant _ _ _ c.by_number.ensures _
    (room_judged _ _ _ _ _ _ c.check_network-said.ensures c.in-Ok.is _ c.file_length-length.ensures _ c.refuse_if.ensures)
