-- What steps do not use: no two nodes have one parent link, so the tree link of a node that is not passed is not used; and a link that
-- crosses is nobody's parent link. Assumes nothing.
use mathlib.Core.Path.{◌≡◌, refl, sym, ap, subst, ◌∙◌}
use mathlib.Core.Bool.{Bool, true, false, not, ◌&&◌, ◌||◌}
use mathlib.Core.List.{List, [], ◌∷◌, map, reverse, reverse-cons}
use Prim.Native.Nat.{ℕ}
use native.Mathlib.Omega.{arith}
use lib.Dec.{eqb}
use lib.ListN.{length}
use borrow.Author.Tests.{eqb-true, eq-eqb, ne_eqb, not-true}
use Rattle.rows.specs.Lists.{has, up_to}
use Rattle.rows.proofs.Tests.{clash, either, or_none, or_right, or_swap, and_left, and_right}
use Rattle.rows.proofs.Listed.{has-append, has_head}
use Rattle.rows.proofs.Best.{one_some}
use Rattle.network.specs.declared.Link.{Link}
use Rattle.network.specs.Network.{Net, in_service, is_parent}
use Rattle.tree.specs.Tree.{Tree, tree_of, route}
use Rattle.tree.proofs.Ways.{way, way_head, route-root, before_on, before-longer, under_self}
use Rattle.tree.proofs.Climbing.{shorter}
use Rattle.swap.specs.Swap.{crosses}
use Rattle.table.proofs.Skipping.{own_first, own_second}
use Rattle.forward.specs.Forward.{steps_up}
use Rattle.forward.specs.Walk.{joins, Step}
use Rattle.forward.specs.Work.{Node, Upward}
use Rattle.forward.proofs.Nodes.{fine, homed, above, top}
use Rattle.forward.proofs.Walking.{tree_step}

-- backwards a list has what it has
pub has-reverse : (y : ℕ) (r : List ℕ) → has y (reverse r) ≡ has y r
unfolding has
has-reverse y [] = refl
has-reverse y (u ∷ r) =
    ap (has y) (reverse-cons u r)
    ∙ has-append y (reverse r) (u ∷ [])
    ∙ ap (λ (b : Bool). b || (eqb u y || false)) (has-reverse y r)
    ∙ ap (λ (b : Bool). has y r || b) (or_none (eqb u y))
    ∙ or_swap (has y r) (eqb u y)

-- what no number of a list is sent to is not among what they are sent to
map-without : (f : ℕ → ℕ) (e : ℕ) (r : List ℕ) → ((y : ℕ) → has y r ≡ true → f y ≡ e → ⊥) → has e (map f r) ≡ false
unfolding has
map-without f e [] h = refl
map-without f e (u ∷ r) h =
    rw (ne_eqb (f u) e (h u (has_head u r))) (map-without f e r (λ y m. h y (or_right (eqb u y) (has y r) m)))

-- a link that joins u and v joins no other node to anything but these two
joins-one : {A : Type 0} (l : Link) (u v : ℕ) → joins l u v ≡ true → ((l.first ≡ u) → (l.second ≡ v) → A) → ((l.first ≡ v) → (l.second ≡ u) → A) → A
unfolding joins
joins-one l u v h f s =
    either (eqb l.first u && eqb l.second v) (eqb l.first v && eqb l.second u) h
    (λ p. f (eqb-true l.first u (and_left _ _ p)) (eqb-true l.second v (and_right (eqb l.first u) _ p)))
    (λ q p. s (eqb-true l.first v (and_left _ _ p)) (eqb-true l.second u (and_right (eqb l.first v) _ p)))

-- a link that crosses x is not its tree link
pub crossing_other : (t : Tree) (x e : ℕ) (l : Link) → crosses t x e l ≡ true → eqb e (t.link x) ≡ false
unfolding crosses
crossing_other t x e l k =
    not-true (eqb e (t.link x))
    (and_right (in_service l) (not (eqb e (t.link x))) (and_left (in_service l && not (eqb e (t.link x))) _ k))

-- what is among the values over a list is the value of one of them
map-has : (f : ℕ → ℕ) (e : ℕ) (r : List ℕ) → has e (map f r) ≡ true → (y : ℕ) × (has y r ≡ true) × (f y ≡ e)
unfolding has
map-has f e [] h = clash h refl
map-has f e (u ∷ r) h =
    either (eqb (f u) e) (has e (map f r)) h
    (λ q. (u, has_head u r, eqb-true (f u) e q))
    (λ q m. let z = map-has f e r m in (z.0, or_right (eqb u z.0) (has z.0 r) z.1, z.2))

module _ (g : Net) where
  abbrev t : Tree
  t = tree_of g

  -- two nodes that have one parent link are one
  pub link-one : {x y : ℕ} → Node g x → Node g y → eqb x t.root ≡ false → eqb y t.root ≡ false → t.link y ≡ t.link x → x ≡ y
  link-one {x} {y} nx ny ex ey q =
      joins-one (g.link (t.link x)) x (t.up x) (tree_step g nx ex).joined
      (λ a b.
      joins-one (g.link (t.link x)) y (t.up y) same
      (λ c d. sym a ∙ c)
      (λ c d. round (sym a ∙ c) (sym b ∙ d)))
      (λ a b.
      joins-one (g.link (t.link x)) y (t.up y) same
      (λ c d. round (sym b ∙ d) (sym a ∙ c))
      (λ c d. sym b ∙ d))
    where
      same : joins (g.link (t.link x)) y (t.up y) ≡ true
      same = subst (λ (e : ℕ). joins (g.link e) y (t.up y) ≡ true) q (tree_step g ny ey).joined

      -- neither is the parent of the other's parent
      round : x ≡ t.up y → t.up x ≡ y → x ≡ y
      round a b =
          absurd
          (omega (
            arith,
            shorter t x (homed g nx) x (under_self t x (homed g nx)) ex,
            shorter t y (homed g ny) y (under_self t y (homed g ny)) ey,
            ap (λ (v : ℕ). length (route t v)) a,
            ap (λ (v : ℕ). length (route t v)) b,
          ))

  module _ {c u : ℕ} (w : Upward g c u) where
    -- a node passed on the way up is no root
    passed : (y : ℕ) → has y (up_to c (route t u)) ≡ true → Node g y × (eqb y t.root ≡ false)
    passed y p =
        let n = above g w.node y (before_on t u c y p) in
        let nc = above g w.node c w.on in
        let last = route-root t t.root (homed g (top g w.node)) (eq-eqb t.root t.root refl) in
        let more = before-longer t u c y (homed g w.node) w.on p (homed g nc) (homed g n) in
        let some = way_head t (way t c (homed g nc)) in
        (n, ne_eqb y t.root (λ q. omega (arith, more, ap length some.1, ap (λ (v : ℕ). length (route t v)) q, ap length last)))

    -- every step is over a parent link
    pub steps-parents : (e : ℕ) → has e (steps_up t c u) ≡ true → is_parent g.parent g.nodes e ≡ true
    unfolding steps_up is_parent tree_of
    steps-parents e h =
        let z = map-has t.link e (up_to c (route t u)) h in
        one_some (λ v. eqb (g.parent v) e) g.nodes z.0 (passed z.0 z.1).0.low (eq-eqb (g.parent z.0) e z.2)

    -- the tree link of a node that is not passed is not used
    pub steps_avoid : {x : ℕ} → Node g x → eqb x t.root ≡ false → has x (up_to c (route t u)) ≡ false → has (t.link x) (steps_up t c u) ≡ false
    unfolding steps_up
    steps_avoid {x} n e h =
        map-without t.link (t.link x) (up_to c (route t u))
        (λ y p q. clash p (subst (λ (v : ℕ). has v (up_to c (route t u)) ≡ false) (link-one n (passed y p).0 e (passed y p).1 q) h))

    -- nor is a link that crosses some node: a parent link crosses none
    pub crossing_unused : (x e : ℕ) → crosses t x e (g.link e) ≡ true → has e (steps_up t c u) ≡ false
    unfolding steps_up tree_of
    crossing_unused x e k = map-without t.link e (up_to c (route t u)) (λ y p q. own y (passed y p).0 (passed y p).1 q)
      where
        own : (y : ℕ) → Node g y → eqb y t.root ≡ false → t.link y ≡ e → ⊥
        own y n r q =
            let s = subst (λ (v : ℕ). Step g v y (t.up y)) q (tree_step g n r) in
            joins-one (g.link e) y (t.up y) s.joined
            (λ a b. clash k (own_first g (fine g n) e s.real (ap g.parent a ∙ q) x))
            (λ a b. clash k (own_second g (fine g n) e s.real (ap g.parent b ∙ q) x))
