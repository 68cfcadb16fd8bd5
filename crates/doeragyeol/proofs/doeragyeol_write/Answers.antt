-- `doeragyeol::doeragyeol_write` meets its contract. Assumes nothing.
use Rattle.doeragyeol.proofs.Answering.{write_short, write_taken, write_refused}
use Rattle.doeragyeol.proofs.doeragyeol_write.Goals as goal

pub returns-then-size-lt-SIZE : goal.returns-then-size-lt-SIZE
returns-then-size-lt-SIZE c =
    write_short _ _ _ c.if-size-lt-SIZE.true _ c.short_word.ensures

pub returns-in-Ok : goal.returns-in-Ok
returns-in-Ok c =
    write_taken _ _ _ c.if-size-lt-SIZE.false _ c.write.ensures.0 _ c.write.ensures.1 _ c.in-Ok.is _ c.put.ensures

pub returns-in-Err : goal.returns-in-Err
returns-in-Err c =
    write_refused _ _ _ c.if-size-lt-SIZE.false _ c.write.ensures.0 _ c.write.ensures.1 _ c.in-Err.is _ c.refusal_word.ensures
