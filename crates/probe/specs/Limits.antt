-- The probe's ops, and which heads are over a limit. Assumes nothing.
use Rattle.std.specs.Prelude.{Bool, cond, not, ◌&&◌, ◌||◌, ℕ, eqb, ltb, leb}
use Rattle.probe_rows.specs.Limits.{most_parents, most_links, most_bytes, most_room, most_route}
use Rattle.probe.specs.declared.input.Head.{Head}

-- The ops of the probe's table are 1 to this one.
abbrev pub last_op : ℕ
last_op = 9

-- The project's own ops are these and those between.
abbrev pub first_own : ℕ
first_own = 101

abbrev pub last_own : ℕ
last_own = 105

-- The op that lends three rows, and the other one behind whose parents bytes follow.
abbrev pub read_op : ℕ
read_op = 7

abbrev pub payload_op : ℕ
payload_op = 8

-- The op that lends two rows, and no room.
abbrev pub forward_op : ℕ
forward_op = 9

-- Is the op in the probe's table, or one of the project's own?
unfoldable pub is_op : ℕ → Bool
is_op op = not (ltb op 1) && (leb op last_op || (not (ltb op first_own) && leb op last_own))

-- Do bytes follow the parents, not link numbers?
unfoldable pub takes_bytes : ℕ → Bool
takes_bytes op = eqb op read_op || eqb op payload_op

-- The most that may follow the parents.
unfoldable pub most_rest : ℕ → ℕ
most_rest op = cond (takes_bytes op) most_bytes most_links

-- Is one of the three rows that op 7 lends over its limit?
unfoldable pub over_rows : Head → Bool
over_rows head = ltb most_links head.a || (ltb most_parents head.b || ltb most_room head.c)

-- Is one of the two rows that op 9 lends over its limit?
unfoldable pub over_routes : Head → Bool
over_routes head = ltb most_route head.ordinary || ltb most_route head.detour

-- Is what words 4 and 5 lend over its limit: the two rows of op 9, the room of any other?
unfoldable pub over_room : Head → Bool
over_room head = cond (eqb head.op forward_op) (over_routes head) (ltb most_room head.room)

-- Is the head over a limit?
unfoldable pub is_over : Head → Bool
is_over head =
    ltb most_parents head.parents
    || (over_room head || (ltb (most_rest head.op) head.rest || (eqb head.op read_op && over_rows head)))
