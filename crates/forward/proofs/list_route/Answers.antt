-- `forward::list_route` meets its contract. Assumes nothing.
use native.Mathlib.Omega.{arith}
use Rattle.forward.proofs.Listing.{to_root, route-room, route_row_lem, route-told}
use Rattle.forward.proofs.list_route.Goals as goal

pub write_up-requires : goal.write_up-requires
write_up-requires c =
    (to_root _ _ _ c.requires.0, omega arith, omega (arith, c.requires.1, route-room _ _ _ c.requires.0))

pub returns : goal.returns
returns c = (
  route-told _ _ _ c.requires.0 _ c.climb_to-up.ensures,
  route_row_lem _ _ _ c.requires.0 _ c.requires.1 c.write_up.ensures,
)
