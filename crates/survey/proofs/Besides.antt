-- What is beside a node: the largest distance below its parent and not below it is the larger of the parent's own distance and the
-- deepest below its siblings. Assumes nothing.
use mathlib.Core.Path.{◌≡◌, refl, sym, subst, ◌∙◌}
use mathlib.Core.Bool.{Bool, true, false, not}
use mathlib.Core.List.{List}
use Prim.Native.Nat.{ℕ, ◌<◌, ◌≤◌}
use native.Mathlib.Omega.{arith}
use lib.Dec.{eqb}
use borrow.Author.Tests.{eqb-true, eqb-false, not-true}
use Rattle.rows.specs.Lists.{has, up_to}
use Rattle.rows.proofs.Tests.{clash, either, and_left, and_right, not_so}
use Rattle.tree.specs.Tree.{Tree, route, dist, under, inside}
use Rattle.rows.specs.Count.{max_to}
use Rattle.tree.proofs.Ways.{Way, top, hop, Home, way, under_self, under_trans, under-cut, before-under, over_next}
use Rattle.tree.proofs.Climbing.{up_above, below-not}
use Rattle.survey.specs.Known.{deepest, aside}
use Rattle.survey.proofs.Inside.{inside-reach, inside_bound, beside-reach, beside_bound, aside-more}
use Rattle.survey.specs.Work.{child}

module _ (t : Tree) (all : (u : ℕ) → u < t.size → Home t u) (closed : (u : ℕ) → u < t.size → t.up u < t.size) where
  -- of two nodes on a route one is below the other
  in_line : (u x y : ℕ) → Home t u → under t x u ≡ true → under t y u ≡ true → under t x y ≡ false → under t y x ≡ true
  in_line u x y h p q n =
      either (has y (up_to x (route t u))) (under t y x) (sym (under-cut t u x y h p) ∙ q)
      (λ e. clash (before-under t u x y h p e) n)
      (λ e f. f)

  -- siblings have nothing in common
  siblings :
      (u x y : ℕ)
      → Home t u → x < t.size → y < t.size → eqb x t.root ≡ false → eqb y t.root ≡ false → t.up y ≡ t.up x
      → (y ≡ x → ⊥) → under t y u ≡ true → under t x u ≡ false
  siblings u x y h lx ly rx ry q n e =
      not_so (under t x u)
      (λ p. go p (under t x y) refl)
    where
      go : under t x u ≡ true → (b : Bool) → under t x y ≡ b → ⊥
      go p true f = clash (over_next t y x (all y ly) f n) (subst (λ (v : ℕ). under t x v ≡ false) (sym q) (below-not t x (all x lx) rx))
      go p false f =
          clash (over_next t x y (all x lx) (in_line u x y h p e f) (λ z. n (sym z)))
          (subst (λ (v : ℕ). under t y v ≡ false) q (below-not t y (all y ly) ry))

  -- a node below p that is not p is below a child of p
  child-way :
      (u p : ℕ)
      → Home t u → {v : ℕ} {r : List ℕ} → Way t v r → v < t.size → under t v u ≡ true → has p r ≡ true → (v ≡ p → ⊥)
      → (y : ℕ) × (y < t.size) × (child t p y ≡ true) × (under t y u ≡ true)
  unfolding has child
  child-way u p h (top {u = v} e) l o m n = either (eqb v p) false m (λ q. absurd (n (eqb-true v p q))) (λ q c. clash c refl)
  child-way u p h (hop {u = v} {r} e w) l o m n =
      either (eqb v p) (has p r) m
      (λ q. absurd (n (eqb-true v p q)))
      (λ q c. go
      (child-way u p h w (closed v l)
      (under_trans t v (t.up v) u h o (up_above t v (all v l) v (under_self t v (all v l)) e)) c)
      (eqb (t.up v) p) refl)
    where
      go :
          ((t.up v ≡ p → ⊥) → (y : ℕ) × (y < t.size) × (child t p y ≡ true) × (under t y u ≡ true))
          → (b : Bool) → eqb (t.up v) p ≡ b → (y : ℕ) × (y < t.size) × (child t p y ≡ true) × (under t y u ≡ true)
      go ih true q = (v, l, rw (e, q), o)
      go ih false q = ih (eqb-false (t.up v) p q)

  child-above : (u p : ℕ) → Home t u → u < t.size → under t p u ≡ true → (u ≡ p → ⊥) → (y : ℕ) × (y < t.size) × (child t p y ≡ true) × (under t y u ≡ true)
  unfolding under
  child-above u p h l e n = child-way u p h (way t u h) l (under_self t u h) e n

  pub child_says : (p y : ℕ) → child t p y ≡ true → (eqb y t.root ≡ false) × (t.up y ≡ p)
  unfolding child
  child_says p y e = (
    not-true (eqb y t.root) (and_left (not (eqb y t.root)) (eqb (t.up y) p) e),
    eqb-true (t.up y) p (and_right (not (eqb y t.root)) (eqb (t.up y) p) e),
  )

  reach_deep : (y u : ℕ) → u < t.size → under t y u ≡ true → dist t u ≤ deepest t y
  unfolding deepest
  reach_deep y u l e = inside-reach t y (dist t) u l e

  -- the deepest below a node: at least its own distance and what is deepest below each child, and no more
  pub deepest-own : (x : ℕ) → x < t.size → dist t x ≤ deepest t x
  deepest-own x l = reach_deep x x l (under_self t x (all x l))

  pub deepest-child : (p y : ℕ) → y < t.size → child t p y ≡ true → deepest t y ≤ deepest t p
  unfolding deepest
  deepest-child p y l e =
      let z = child_says p y e in
      inside_bound t y (dist t) (max_to (inside t p (dist t)) t.size)
      (λ u k h.
      inside-reach t p (dist t) u k
      (under_trans t y p u (all u k) h (subst (λ (v : ℕ). under t v y ≡ true) z.1 (up_above t y (all y l) y (under_self t y (all y l)) z.0))))

  pub deepest_least : (p b : ℕ) → dist t p ≤ b → ((y : ℕ) → y < t.size → child t p y ≡ true → deepest t y ≤ b) → deepest t p ≤ b
  unfolding deepest
  deepest_least p b low each = inside_bound t p (dist t) b (λ u l e. go u l e (eqb u p) refl)
    where
      go : (u : ℕ) → u < t.size → under t p u ≡ true → (c : Bool) → eqb u p ≡ c → dist t u ≤ b
      go u l e true q = subst (λ (v : ℕ). dist t v ≤ b) (sym (eqb-true u p q)) low
      go u l e false q =
          let y = child-above u p (all u l) l e (eqb-false u p q) in
          omega (arith, each y.0 y.1 y.2, reach_deep y.0 u l y.3)

  module _ (x : ℕ) (lx : x < t.size) (nx : eqb x t.root ≡ false) where
    own : under t x x ≡ true
    own = under_self t x (all x lx)

    lp : t.up x < t.size
    lp = closed x lx

    -- the parent's distance, and the deepest below each sibling, are at most what is beside
    pub parent-beside : dist t (t.up x) ≤ aside t x
    parent-beside = aside-more t all x x lx own nx lp

    pub sibling_beside : (y : ℕ) → y < t.size → (y ≡ x → ⊥) → child t (t.up x) y ≡ true → deepest t y ≤ aside t x
    unfolding deepest
    sibling_beside y ly n e =
        let z = child_says (t.up x) y e in
        inside_bound t y (dist t) (aside t x)
        (λ u l p.
        beside-reach t all x x lx own nx lp u l
        (under_trans t y (t.up x) u (all u l) p (subst (λ (v : ℕ). under t v y ≡ true) z.1 (up_above t y (all y ly) y (under_self t y (all y ly)) z.0)))
        (siblings u x y (all u l) lx ly nx z.0 z.1 n p))

    -- and what is beside is no more than a number that is at least those
    pub beside_least : (b : ℕ) → dist t (t.up x) ≤ b → ((y : ℕ) → y < t.size → (y ≡ x → ⊥) → child t (t.up x) y ≡ true → deepest t y ≤ b) → aside t x ≤ b
    beside_least b low each =
        beside_bound t all x x lx own nx lp b
        (λ u l e f. go u l e f (eqb u (t.up x)) refl)
      where
        go : (u : ℕ) → u < t.size → under t (t.up x) u ≡ true → under t x u ≡ false → (c : Bool) → eqb u (t.up x) ≡ c → dist t u ≤ b
        go u l e f true q = subst (λ (v : ℕ). dist t v ≤ b) (sym (eqb-true u (t.up x) q)) low
        go u l e f false q =
            let y = child-above u (t.up x) (all u l) l e (eqb-false u (t.up x) q) in
            let other : y.0 ≡ x → ⊥ = λ z. clash (subst (λ (v : ℕ). under t v u ≡ true) z y.3) f in
            omega (arith, each y.0 y.1 other y.2, reach_deep y.0 u l y.3)
