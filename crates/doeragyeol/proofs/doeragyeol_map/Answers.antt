-- `doeragyeol::doeragyeol_map` meets its contract. Assumes nothing.
use Rattle.doeragyeol.proofs.Answering.{map-short, map-taken, map-refused}
use Rattle.doeragyeol.proofs.doeragyeol_map.Goals as goal

pub returns-then-told-lt-TOLD : goal.returns-then-told-lt-TOLD
returns-then-told-lt-TOLD c =
    map-short _ _ _ c.if-told-lt-TOLD.true _ c.short_word.ensures

pub returns-in-Ok : goal.returns-in-Ok
returns-in-Ok c =
    map-taken _ _ _ c.if-told-lt-TOLD.false _ c.unprotected_map.ensures.0 _ c.unprotected_map.ensures.1 _ c.in-Ok.is _ c.put.ensures

pub returns-in-Err : goal.returns-in-Err
returns-in-Err c =
    map-refused _ _ _ c.if-told-lt-TOLD.false _ c.unprotected_map.ensures.0 _ c.unprotected_map.ensures.1 _ c.in-Err.is _
    c.refusal_word.ensures
