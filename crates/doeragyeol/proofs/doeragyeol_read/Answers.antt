-- `doeragyeol::doeragyeol_read` meets its contract. Assumes nothing.
use Rattle.doeragyeol.proofs.Answering.{read_short, read_taken, read_refused}
use Rattle.doeragyeol.proofs.doeragyeol_read.Goals as goal

pub returns-then-header-lt-HEADER : goal.returns-then-header-lt-HEADER
returns-then-header-lt-HEADER c =
    read_short _ _ _ _ _ c.if-header-lt-HEADER.true _ c.check_read.ensures _ c.word.ensures

pub returns-in-Ok : goal.returns-in-Ok
returns-in-Ok c =
    read_taken _ _ _ _ _ c.if-header-lt-HEADER.false _ c.read.ensures.0 _ _ _ c.read.ensures.1 c.read.ensures.2 c.read.ensures.3 _ c.in-Ok.is _
    c.put.ensures

pub returns-in-Err : goal.returns-in-Err
returns-in-Err c =
    read_refused _ _ _ _ _ c.if-header-lt-HEADER.false _ c.read.ensures.0 _ _ _ c.read.ensures.1 c.read.ensures.2 c.read.ensures.3 _
    c.in-Err.is _ c.refusal_word.ensures
