-- `doeragyeol::doeragyeol_check` meets its contract. Assumes nothing.
use Rattle.doeragyeol.proofs.Answering.{check_short, check_sound, check_unsound}
use Rattle.doeragyeol.proofs.doeragyeol_check.Goals as goal

pub returns-then-sizes-lt-SIZES : goal.returns-then-sizes-lt-SIZES
returns-then-sizes-lt-SIZES c =
    check_short _ _ c.if-sizes-lt-SIZES.true _ c.short_word.ensures

pub returns-in-Ok : goal.returns-in-Ok
returns-in-Ok c =
    check_sound _ _ c.if-sizes-lt-SIZES.false _ c.check_network.ensures _ c.in-Ok.is _ c.put.ensures

pub returns-in-Err : goal.returns-in-Err
returns-in-Err c =
    check_unsound _ _ c.if-sizes-lt-SIZES.false _ c.check_network.ensures _ c.in-Err.is _ c.refusal_word.ensures
