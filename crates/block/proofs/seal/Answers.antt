-- `block::seal` meets its contract. Assumes nothing.
use mathlib.Core.Path.{sym, ap, ◌∙◌}
use Rattle.block.specs.Block.{record_bytes}
use Rattle.block.proofs.Sealing.{seal_is}
use Rattle.block.proofs.seal.Goals as goal

pub returns : goal.returns
returns c =
    seal_is _ _ _ _ c.if-b-ne-BLOCK_BYTES.false c.in-Some.ensures.1 _ (c.record_bytes.ensures ∙ ap record_bytes (sym c.in-Some.ensures.0)) _
    c.put_front.ensures _ (c.fill.ensures.after (λ y h. h)) _ c.check_of-check.ensures _ c.put_number.ensures
