-- `forward::write_around` meets its contract. Assumes nothing.
use native.Mathlib.Omega.{arith}
use Rattle.forward.proofs.Listing.{to_root, up_room, down-room, two-room, three-room, around_row}
use Rattle.forward.proofs.write_around.Goals as goal

pub overflow_add-at : goal.overflow_add-at
overflow_add-at c =
    omega (arith, up_room _ _ _ c.requires.0 c.requires.1 c.requires.2)

pub overflow_add-last : goal.overflow_add-last
overflow_add-last c =
    omega (arith, down-room _ _ _ c.requires.0 c.requires.1 c.requires.2)

pub write_up-requires : goal.write_up-requires
write_up-requires c =
    (c.requires.0.start, omega arith, omega (arith, c.requires.3, c.requires.1, up_room _ _ _ c.requires.0 c.requires.1 c.requires.2))

pub write_down-requires : goal.write_down-requires
write_down-requires c = (
  c.requires.0.down,
  c.requires.2,
  up_room _ _ _ c.requires.0 c.requires.1 c.requires.2,
  two-room _ _ _ c.requires.0 c.requires.1 c.requires.2 _ c.requires.3 c.write_up.ensures,
)

pub write_up-requires-2 : goal.write_up-requires-2
write_up-requires-2 c = (
  to_root _ _ _ c.requires.0.rest,
  down-room _ _ _ c.requires.0 c.requires.1 c.requires.2,
  three-room _ _ _ c.requires.0 c.requires.1 c.requires.2 _ c.requires.3 c.write_up.ensures c.write_down.ensures,
)

pub returns : goal.returns
returns c =
    around_row _ _ _ c.requires.0 c.requires.1 c.requires.2 _ c.requires.3 c.write_up.ensures
    c.write_down.ensures
    c.write_up-2.ensures
