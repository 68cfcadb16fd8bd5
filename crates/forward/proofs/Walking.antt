-- The lists are walks: up the tree, down it, and across a link, each step over a link of the network that is in service.
-- Assumes nothing.
use mathlib.Core.Path.{◌≡◌, refl, sym, ap, subst, ◌∙◌}
use mathlib.Core.Bool.{Bool, true, false, ◌&&◌}
use mathlib.Core.List.{List, [], ◌∷◌, ◌++◌, map, reverse, reverse-cons, append-nil, append_assoc}
use Prim.Native.Nat.{ℕ, ◌<◌}
use native.Mathlib.Omega.{arith}
use lib.Dec.{eqb}
use borrow.Author.Tests.{eqb-true, eq-eqb}
use Rattle.rows.specs.Lists.{has, up_to}
use Rattle.rows.proofs.Tests.{clash, either, or_right, or_swap, and_left, and_right}
use Rattle.rows.proofs.Listed.{up_to-here, up_to-past}
use Rattle.network.specs.declared.Link.{Link}
use Rattle.network.specs.Network.{Net, touches, other_end}
use Rattle.tree.specs.Tree.{Tree, tree_of, route, under}
use Rattle.tree.proofs.Ways.{Way, top, hop, way, under-root, route-cut, route-root}
use Rattle.sound.proofs.Holding.{up_in, ends_differ, parent_in, parent-serves, parent-touches}
use Rattle.swap.specs.Swap.{inner_end, outer_end, crosses}
use Rattle.swap.proofs.Costing.{crossing-serves}
use Rattle.forward.specs.Forward.{around, steps_up, steps_around}
use Rattle.forward.specs.Walk.{joins, Step, Walk, stop, step}
use Rattle.forward.specs.Work.{Node, Around}
use Rattle.forward.proofs.Nodes.{fine, homed, size_is, in_tree, top as top-node}

-- a link joins what it joins in either order
joins_back : (l : Link) (u v : ℕ) → joins l u v ≡ joins l v u
unfolding joins
joins_back l u v = or_swap (eqb l.first u && eqb l.second v) (eqb l.first v && eqb l.second u)

-- and a step can be gone back
pub step_back : {g : Net} {e u v : ℕ} → Step g e u v → Step g e v u
step_back {g} {e} {u} {v} s = record { real = s.real; serves = s.serves; joined = joins_back (g.link e) v u ∙ s.joined }

-- a link whose ends differ joins each to the other
joins_other : (l : Link) (u : ℕ) → (l.first ≡ l.second → ⊥) → touches l u ≡ true → joins l u (other_end l u) ≡ true
unfolding joins touches other_end
joins_other l u d h =
    either (eqb l.first u) (eqb l.second u) h
    (λ p. rw (p, eq-eqb l.second l.second refl))
    (λ p q. rw (p, q, eq-eqb l.first l.first refl))

-- z and z' are the two ends
joins_ends : (t : Tree) (x : ℕ) (l : Link) → joins l (inner_end t x l) (outer_end t x l) ≡ true
unfolding joins inner_end outer_end
joins_ends t x l = go (under t x l.first) refl
  where
    both : (eqb l.first l.first && eqb l.second l.second) ≡ true
    both = rw (eq-eqb l.first l.first refl, eq-eqb l.second l.second refl)

    go : (b : Bool) → under t x l.first ≡ b → joins l (inner_end t x l) (outer_end t x l) ≡ true
    go true e = rw (e, both)
    go false e = rw e (or_right (eqb l.first l.second && eqb l.second l.first) _ both)

-- a link that crosses is a step from z to z'
pub cross-step :
    (g : Net) (x e : ℕ)
    → e < g.links → crosses (tree_of g) x e (g.link e) ≡ true
    → Step g e (inner_end (tree_of g) x (g.link e)) (outer_end (tree_of g) x (g.link e))
cross-step g x e l c =
    record { real = l; serves = crossing-serves (tree_of g) x (g.link e) e c; joined = joins_ends (tree_of g) x (g.link e) }

-- a node put from the front of what is backwards to the front of what follows
shift : (v : ℕ) (a b : List ℕ) → reverse (v ∷ a) ++ b ≡ reverse a ++ (v ∷ b)
shift v a b = ap (λ (r : List ℕ). r ++ b) (reverse-cons v a) ∙ append_assoc (reverse a) (v ∷ []) b

module _ (g : Net) where
  abbrev t : Tree
  t = tree_of g

  -- the step from a node that is not the root to its parent
  pub tree_step : {u : ℕ} → Node g u → eqb u t.root ≡ false → Step g (t.link u) u (t.up u)
  unfolding tree_of
  tree_step {u} n e =
      let there = parent_in g (fine g n) u n.low e in
      record {
        real = there;
        serves = parent-serves g (fine g n) u n.low e;
        joined =
            rw e
            (joins_other (g.link (g.parent u)) u (ends_differ g (fine g n) (g.parent u) there) (parent-touches g (fine g n) u n.low e));
      }

  -- the parent of a node is a node
  pub parent : {u : ℕ} → Node g u → Node g (t.up u)
  parent {u} n = record { is_taken = n.is_taken; low = omega (arith, size_is g, up_in g (fine g n) u (in_tree g n)) }

  -- up from u to c, and on
  walk_up :
      {u : ℕ} {r : List ℕ} (c : ℕ)
      → Way t u r → Node g u → has c r ≡ true → {w : ℕ} {nodes links : List ℕ} → Walk g c w nodes links
      → Walk g u w (up_to c r ++ nodes) (map t.link (up_to c r) ++ links)
  unfolding has
  walk_up c (top {u} e) n h {w} {nodes} {links} k =
      either (eqb u c) false h
      (λ q. rw (up_to-here u c [] q) (subst (λ (v : ℕ). Walk g v w nodes links) (sym (eqb-true u c q)) k))
      (λ q m. clash m refl)
  walk_up c (hop {u} {r} e v) n h {w} {nodes} {links} k =
      either (eqb u c) (has c r) h
      (λ q. rw (up_to-here u c r q) (subst (λ (y : ℕ). Walk g y w nodes links) (sym (eqb-true u c q)) k))
      (λ q m. rw (up_to-past u c r q) (step (tree_step n e) (walk_up c v (parent n) m k)))

  -- down from c to u, and on
  walk_down :
      {u : ℕ} {r : List ℕ} (c : ℕ)
      → Way t u r → Node g u → has c r ≡ true → {w : ℕ} {nodes links : List ℕ} → Walk g u w (u ∷ nodes) links
      → Walk g c w (c ∷ (reverse (up_to c r) ++ nodes)) (reverse (map t.link (up_to c r)) ++ links)
  unfolding has
  walk_down c (top {u} e) n h {w} {nodes} {links} k =
      either (eqb u c) false h
      (λ q. rw (up_to-here u c [] q) (subst (λ (v : ℕ). Walk g v w (v ∷ nodes) links) (eqb-true u c q) k))
      (λ q m. clash m refl)
  walk_down c (hop {u} {r} e v) n h {w} {nodes} {links} k =
      either (eqb u c) (has c r) h
      (λ q. rw (up_to-here u c r q) (subst (λ (y : ℕ). Walk g y w (y ∷ nodes) links) (eqb-true u c q) k))
      (λ q m.
      rw (up_to-past u c r q, shift u (up_to c r) nodes, shift (t.link u) (map t.link (up_to c r)) links)
      (walk_down c v (parent n) m (step (step_back (tree_step n e)) k)))

  -- the route of u leads to the root
  pub route_walk : {u : ℕ} → Node g u → Walk g u t.root (route t u) (steps_up t t.root u)
  unfolding steps_up under
  route_walk {u} n =
      let last = homed g (top-node g n) in
      let end : Walk g t.root t.root (route t t.root) [] = rw (route-root t t.root last (eq-eqb t.root t.root refl)) stop in
      let all = walk_up t.root (way t u (homed g n)) n (under-root t u (homed g n)) end in
      let links = map t.link (up_to t.root (route t u)) in
      subst (λ (nodes : List ℕ). Walk g u t.root nodes links) (sym (route-cut t u t.root (homed g n) (under-root t u (homed g n))))
      (subst (Walk g u t.root (up_to t.root (route t u) ++ route t t.root)) (append-nil links) all)

  -- the way around leads there too, with a step from z to z'
  pub around_walk : {x u z z' e : ℕ} → Around g x u z z' → Step g e z z' → Walk g u t.root (around t x z z' u) (steps_around t x e z z' u)
  unfolding around steps_around steps_up under
  around_walk {x} {u} {z} w s =
      walk_up x (way t u (homed g w.start.node)) w.start.node w.start.on
      (walk_down x (way t z (homed g w.down.node)) w.down.node w.down.on (step s (route_walk w.rest)))

  -- every number of a walk to a node is a node
  pub walk_nodes :
      {u w : ℕ} {nodes links : List ℕ}
      → ((e : ℕ) → e < g.links → ((g.link e).first < g.nodes) × ((g.link e).second < g.nodes)) → w < g.nodes
      → Walk g u w nodes links → (y : ℕ) → has y nodes ≡ true → y < g.nodes
  unfolding has joins
  walk_nodes ends l (stop {u}) y h = either (eqb u y) false h (λ q. subst (λ (v : ℕ). v < g.nodes) (eqb-true u y q) l) (λ q m. clash m refl)
  walk_nodes ends l (step {u} {v} {w} {e} {nodes} {links} s k) y h =
      either (eqb u y) (has y nodes) h
      (λ q. subst (λ (i : ℕ). i < g.nodes) (eqb-true u y q)
      (either (eqb (g.link e).first u && eqb (g.link e).second v) (eqb (g.link e).first v && eqb (g.link e).second u) s.joined
      (λ p. subst (λ (i : ℕ). i < g.nodes) (eqb-true (g.link e).first u (and_left _ _ p)) (ends e s.real).0)
      (λ n p. subst (λ (i : ℕ). i < g.nodes) (eqb-true (g.link e).second u (and_right (eqb (g.link e).first v) _ p)) (ends e s.real).1)))
      (λ q m. walk_nodes ends l k y m)

  -- and it has one
  pub walk_some : {u w : ℕ} {nodes links : List ℕ} → Walk g u w nodes links → (rest : List ℕ) × (nodes ≡ u ∷ rest)
  walk_some stop = ([], refl)
  walk_some (step {u} {v} {w} {e} {nodes} {links} s k) = (nodes, refl)
