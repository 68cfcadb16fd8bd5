-- `record::put_entry` meets its contract. Assumes nothing.
use Rattle.record.proofs.Putting.{no_room, put_is, entry-joined}
use Rattle.record.proofs.put_entry.Goals as goal

pub returns-then-not-has_room : goal.returns-then-not-has_room
returns-then-not-has_room c =
    no_room _ _ _ _ _ c.has_room.ensures c.if-not-has_room.true

pub returns : goal.returns
returns c =
    put_is _ _ _ _ _ c.has_room.ensures c.if-not-has_room.false _
    (entry-joined _ _ _ _ _ _ _ c.put_front.ensures c.put_four.ensures c.put_costs.ensures)
