-- What is listed: the loops' runs of stores are the route and the way around, and their counts and lengths are those of the climbs.
-- Assumes nothing.
use mathlib.Core.Path.{◌≡◌, refl, sym, ap, ap₂, subst, ◌∙◌}
use mathlib.Core.Bool.{Bool, true, false, cond}
use mathlib.Core.List.{List, [], ◌∷◌, ◌++◌, reverse, append_assoc}
use Prim.Native.Nat.{ℕ, ◌+◌, ◌<◌, ◌≤◌}
use native.Mathlib.Omega.{arith}
use lib.Dec.{eqb}
use lib.ListN.{length, length-append, length-reverse}
use lib.Seq.{sets, length-sets}
use borrow.Author.Tests.{eq-eqb, ne_eqb}
use Rattle.edition.specs.declared.Search.{Search}
use Rattle.edition.specs.Limits.{route_room}
use Rattle.rows.specs.Lists.{up_to}
use Rattle.rows.proofs.Tests.{clash}
use Rattle.network.specs.Network.{Net, net_of}
use Rattle.tree.specs.declared.Climb.{Climb}
use Rattle.tree.specs.Tree.{Tree, tree_of, route, under, hops, way_up}
use Rattle.tree.proofs.Ways.{route-cut, route-root, under-root}
use Rattle.forward.specs.Forward.{around}
use Rattle.forward.specs.Answers.{row_of}
use Rattle.forward.specs.Work.{Node, Upward, Reached, Around, added, route_way, around_way}
use Rattle.forward.proofs.Storing.{sets_append, sets_first}
use Rattle.forward.proofs.Nodes.{homed, top, to_top}
use Rattle.forward.proofs.Fitting.{route-fits, around-long, around-fits}

module _ (g : Net) where
  abbrev t : Tree
  t = tree_of g

  -- a climb that ends at x is one of a node below it
  pub under-told : (x u : ℕ) → Node g u → (c : Climb) → Reached t x u c → eqb c.node x ≡ under t x u
  under-told x u n c r = go (under t x u) refl r.here
    where
      go : (b : Bool) → under t x u ≡ b → c.node ≡ cond b x t.root → eqb c.node x ≡ b
      go true p q = eq-eqb c.node x q
      go false p q =
          ne_eqb c.node x
          (λ e. clash (subst (λ (v : ℕ). under t v u ≡ true) (sym q ∙ e) (under-root t u (homed g n))) p)

  -- one that starts below x ends there
  module _ {x u : ℕ} (w : Upward g x u) (c : Climb) (r : Reached t x u c) where
    at_x : c.node ≡ x
    at_x = r.here ∙ ap (λ (b : Bool). cond b x t.root) w.on

    pub hops_are : c.hops ≡ hops t x u
    hops_are = r.along.hops-is ∙ ap (λ (v : ℕ). hops t v u) at_x

    pub dist_are : c.dist ≡ way_up t x u
    dist_are = r.along.dist-is ∙ ap (λ (v : ℕ). way_up t v u) at_x

  -- up to the root, and the root
  whole_route : {u : ℕ} → Node g u → up_to t.root (route t u) ++ (t.root ∷ []) ≡ route t u
  whole_route {u} n =
      ap (λ (r : List ℕ). up_to t.root (route t u) ++ r)
      (sym (route-root t t.root (homed g (top g n)) (eq-eqb t.root t.root refl)))
      ∙ sym (route-cut t u t.root (homed g n) (under-root t u (homed g n)))

  pub hops-room : {u : ℕ} → Node g u → hops t t.root u + 1 ≡ length (route t u)
  unfolding hops
  hops-room {u} n =
      sym (length-append (up_to t.root (route t u)) (t.root ∷ [])) ∙ ap length (whole_route n)

  pub listed-route :
      {u : ℕ}
      → Node g u → (row : List ℕ) → route_room ≤ length row
      → sets row 0 (up_to t.root (route t u) ++ (t.root ∷ [])) ≡ row_of (route t u) row
  unfolding row_of
  listed-route {u} n row l =
      ap (sets row 0) (whole_route n) ∙ sets_first (route t u) row (omega (arith, l, route-fits g n))

  module _ {x u z z' : ℕ} (w : Around g x u z z') where
    abbrev up : List ℕ
    up = up_to x (route t u) ++ (x ∷ [])

    abbrev down : List ℕ
    down = reverse (up_to x (route t z))

    abbrev rest : List ℕ
    rest = up_to t.root (route t z') ++ (t.root ∷ [])

    up-long : length up ≡ hops t x u + 1
    unfolding hops
    up-long = length-append (up_to x (route t u)) (x ∷ [])

    down-long : length down ≡ hops t x z
    unfolding hops
    down-long = length-reverse (up_to x (route t z))

    -- the three runs, one after the other
    pub listed-around :
        (row : List ℕ)
        → route_room ≤ length row
        → sets (sets (sets row 0 up) (hops t x u + 1) down) (hops t x u + 1 + hops t x z) rest
        ≡ row_of (around t x z z' u) row
    unfolding row_of around
    listed-around row l =
        let first : hops t x u + 1 ≡ 0 + length up = omega (arith, up-long) in
        let second : hops t x u + 1 + hops t x z ≡ 0 + length up + length down = omega (arith, up-long, down-long) in
        ap₂ (λ (i j : ℕ). sets (sets (sets row 0 up) i down) j rest) first second
        ∙ sym (sets_append (sets row 0 up) (0 + length up) down rest)
        ∙ sym (sets_append row 0 up (down ++ rest))
        ∙ ap (λ (r : List ℕ). sets row 0 (up ++ (down ++ r))) (whole_route w.rest)
        ∙ ap (sets row 0) (append_assoc (up_to x (route t u)) (x ∷ []) (down ++ route t z'))
        ∙ sets_first (around t x z z' u) row (omega (arith, l, around-fits g w))

    -- the places that they begin at, and how far they reach
    pub rooms :
        (hops t x u + 1 ≤ route_room) × (hops t x u + 1 + hops t x z ≤ route_room)
        × (hops t x u + 1 + hops t x z + hops t t.root z' + 1 ≤ route_room)
    rooms =
        let all = around-fits g w in
        let long = around-long g x z z' u in
        let last = hops-room w.rest in
        (omega arith, omega arith, omega arith)

-- the same of lent rows, in the words of the code
module _ (links parents : List ℕ) (search : Search) where
  abbrev net : Net
  net = net_of links parents search

  module _ {u : ℕ} (n : Node net u) where
    pub to_root : Upward net search.root u
    unfolding tree_of net_of
    to_root = to_top net n

    pub route-told : (c : Climb) → Reached (tree_of net) search.root u c → record { nodes = c.hops + 1; length = c.dist } ≡ route_way (tree_of net) u
    unfolding route_way tree_of net_of
    route-told c r =
        ap₂ (λ (k d : ℕ). record { nodes = k; length = d })
        (ap (λ (k : ℕ). k + 1) (hops_are net (to_top net n) c r) ∙ hops-room net n)
        (dist_are net (to_top net n) c r)

    pub route-room : hops (tree_of net) search.root u < route_room
    unfolding tree_of net_of
    route-room = omega (arith, hops-room net n, route-fits net n)

    module _ (row : List ℕ) (l : route_room ≤ length row) where
      module _ {row₁ : List ℕ} (one : row₁ ≡ sets row 0 (up_to search.root (route (tree_of net) u) ++ (search.root ∷ []))) where
        pub route_row_lem : row₁ ≡ row_of (route (tree_of net) u) row
        unfolding tree_of net_of
        route_row_lem = one ∙ listed-route net n row l

  module _ {x u z z' : ℕ} (w : Around net x u z z') where
    pub around-told :
        (up down rest : Climb)
        → Reached (tree_of net) x u up → Reached (tree_of net) x z down → Reached (tree_of net) search.root z' rest → (k : ℕ)
        → added up down rest k ≡ around_way (tree_of net) x z z' k u
    unfolding added around_way tree_of net_of
    around-told up down rest p q r k =
        ap₂ (λ (i j : ℕ). record { nodes = i; length = j })
        (omega (
          arith,
          hops_are net w.start up p,
          hops_are net w.down down q,
          hops_are net (to_top net w.rest) rest r,
          hops-room net w.rest,
          around-long net x z z' u,
        ))
        (omega (
          arith,
          dist_are net w.start up p,
          dist_are net w.down down q,
          dist_are net (to_top net w.rest) rest r,
        ))

    module _ {up down : ℕ} (p : up ≡ hops (tree_of net) x u) (q : down ≡ hops (tree_of net) x z) where
      pub up_room : up + 1 ≤ route_room
      up_room = omega (arith, p, (rooms net w).0)

      pub down-room : up + 1 + down ≤ route_room
      down-room = omega (arith, p, q, (rooms net w).1)

      last_room : up + 1 + down + hops (tree_of net) search.root z' + 1 ≤ route_room
      unfolding tree_of net_of
      last_room = omega (arith, p, q, (rooms net w).2)

      -- what the three runs ask for, each after the one before it, and what they leave
      module _ (row : List ℕ) {row₁ : List ℕ} (l : route_room ≤ length row) (one : row₁ ≡ sets row 0 (up_to x (route (tree_of net) u) ++ (x ∷ []))) where
        one-long : length row₁ ≡ length row
        one-long = ap length one ∙ length-sets row 0 (up_to x (route (tree_of net) u) ++ (x ∷ []))

        pub two-room : up + 1 + down ≤ length row₁
        two-room = omega (arith, one-long, down-room, l)

        module _ {row₂ : List ℕ} (two : row₂ ≡ sets row₁ (up + 1) (reverse (up_to x (route (tree_of net) z)))) where
          two-long : length row₂ ≡ length row
          two-long = ap length two ∙ length-sets row₁ (up + 1) (reverse (up_to x (route (tree_of net) z))) ∙ one-long

          pub three-room : up + 1 + down + hops (tree_of net) search.root z' < length row₂
          three-room = omega (arith, two-long, last_room, l)

          module _ {row₃ : List ℕ} (three : row₃ ≡ sets row₂ (up + 1 + down) (up_to search.root (route (tree_of net) z') ++ (search.root ∷ []))) where
            pub around_row : row₃ ≡ row_of (around (tree_of net) x z z' u) row
            unfolding tree_of net_of
            around_row = rw (three, two, one, p, q) (listed-around net w row l)
