-- No list is longer than a row for it: a route has at most as many nodes as there are, and a way around at most twice that less two.
-- Assumes nothing.
use mathlib.Core.Path.{◌≡◌, ap}
use mathlib.Core.List.{◌∷◌, ◌++◌, reverse}
use Prim.Native.Nat.{ℕ, ◌+◌, ◌*◌, ◌≤◌}
use native.Mathlib.Omega.{arith}
use lib.ListN.{length, length-append, length-reverse}
use Rattle.edition.specs.Limits.{route_room}
use Rattle.rows.specs.Lists.{up_to}
use Rattle.network.specs.Network.{Net}
use Rattle.tree.specs.Tree.{tree_of, route, hops, meet}
use Rattle.tree.proofs.Ways.{under_self, route-length}
use Rattle.tree.proofs.Meeting.{home-meet, meet_one, meet-under, under_both}
use Rattle.tree.proofs.Bounded.{hops-few, around-few}
use Rattle.sound.proofs.Holding.{up_in}
use Rattle.forward.specs.Forward.{around}
use Rattle.forward.specs.Work.{Node, Upward, Around}
use Rattle.forward.proofs.Nodes.{fine, homed, in_tree, size_few, above}

module _ (g : Net) where
  -- the routes of x and of a node below it first meet at x
  pub meet-top : {x z : ℕ} → Upward g x z → meet (tree_of g) x z ≡ x
  meet-top {x} {z} w =
      let hz = homed g w.node in
      let hx = homed g (above g w.node x w.on) in
      under_both (tree_of g) (meet (tree_of g) x z) x (home-meet (tree_of g) x z hx hz) hx (meet_one (tree_of g) x z hx hz)
      (meet-under (tree_of g) x z x hx hz (under_self (tree_of g) x hx) w.on)

  -- a route fits its row
  pub route-fits : {u : ℕ} → Node g u → length (route (tree_of g) u) ≤ route_room
  route-fits {u} n = omega (arith, route-length (tree_of g) u, size_few g n)

  -- up, x, down, and the route
  pub around-long :
      (x z z' u : ℕ) → length (around (tree_of g) x z z' u) ≡ hops (tree_of g) x u + 1 + hops (tree_of g) x z + length (route (tree_of g) z')
  unfolding around hops
  around-long x z z' u =
      let a = up_to x (route (tree_of g) u) in
      let b = up_to x (route (tree_of g) z) in
      omega (
        arith,
        length-append a (x ∷ (reverse b ++ route (tree_of g) z')),
        length-append (reverse b) (route (tree_of g) z'),
        length-reverse b,
      )

  module _ {x u z z' : ℕ} (w : Around g x u z z') where
    -- x, down and the route pass no node twice
    down-few : hops (tree_of g) x z + 1 + length (route (tree_of g) z') ≤ (tree_of g).size
    unfolding hops
    down-few =
        let nx = above g w.start.node x w.start.on in
        let few =
        around-few (tree_of g) (up_in g (fine g nx)) x x z z' (homed g nx) (homed g w.down.node) (homed g w.rest)
        (in_tree g nx) (in_tree g w.down.node) (in_tree g w.rest) (under_self (tree_of g) x (homed g nx)) w.down.on w.out in
        let cut = ap (λ (c : ℕ). length (up_to c (route (tree_of g) z))) (meet-top w.down) in
        omega arith

    -- twice the nodes less two
    pub around-few-nodes : length (around (tree_of g) x z z' u) + 2 ≤ 2 * (tree_of g).size
    around-few-nodes =
        omega (
          arith,
          around-long x z z' u,
          down-few,
          hops-few (tree_of g) (up_in g (fine g w.rest)) x u (homed g w.start.node) w.start.on w.below (in_tree g w.start.node),
        )

    -- so it fits its row
    pub around-fits : length (around (tree_of g) x z z' u) ≤ route_room
    around-fits = omega (arith, around-few-nodes, size_few g w.rest)
