-- `doeragyeol::short_word` meets its contract. Assumes nothing.
use Rattle.doeragyeol.proofs.Telling.{short_sound, short_unsound}
use Rattle.doeragyeol.proofs.short_word.Goals as goal

pub returns-in-Ok : goal.returns-in-Ok
returns-in-Ok c =
    short_sound _ _ c.check_network.ensures _ c.in-Ok.is _ c.no_room_word.ensures

pub returns-in-Err : goal.returns-in-Err
returns-in-Err c =
    short_unsound _ _ c.check_network.ensures _ c.in-Err.is _ c.refusal_word.ensures
