-- `doeragyeol::doeragyeol_distance` meets its contract. Assumes nothing.
use Rattle.doeragyeol.proofs.Answering.{distance_short, distance_told, distance_refused}
use Rattle.doeragyeol.proofs.doeragyeol_distance.Goals as goal

pub returns-then-distance-lt-DISTANCE : goal.returns-then-distance-lt-DISTANCE
returns-then-distance-lt-DISTANCE c =
    distance_short _ _ _ _ _ c.tree_distance.ensures _
    c.in-Ok.is c.if-distance-lt-DISTANCE.true _ c.no_room_word.ensures

pub returns-else-distance-lt-DISTANCE : goal.returns-else-distance-lt-DISTANCE
returns-else-distance-lt-DISTANCE c =
    distance_told _ _ _ _ _ c.tree_distance.ensures _
    c.in-Ok.is
    c.if-distance-lt-DISTANCE.false _ c.put.ensures

pub returns-in-Err : goal.returns-in-Err
returns-in-Err c =
    distance_refused _ _ _ _ _ c.tree_distance.ensures _ c.in-Err.is _ c.refusal_word.ensures
