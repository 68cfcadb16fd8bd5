-- Anchors: a node is its own exactly where it is asked for, and where two nodes have one anchor, each node asked for has both below it
-- or none of them. Assumes nothing.
use Rattle.std.specs.Prelude.{None, Some}
use Rattle.std.proofs.Common.{◌≡◌, ℕ, ◌<◌, Bool, true, false, eqb, List, [], ◌∷◌, sym, refl, ap, ◌∙◌, subst, arith, eqb-true}
use Rattle.rows.specs.Lists.{has}
use Rattle.rows.proofs.Tests.{clash, either, or_right, not_so}
use Rattle.rows.proofs.Listed.{has_head}
use Rattle.tree.specs.Tree.{Tree, route, under}
use Rattle.tree.proofs.Ways.{Way, top, hop, Home, way, way_only, way_head, home-step, route-root, route-step, under_trans}
use Rattle.table.specs.Table.{is_asked}
use Rattle.table.specs.Work.{anchor_in, anchor}

has_more : (u a : ℕ) (r : List ℕ) → has a r ≡ true → has a (u ∷ r) ≡ true
unfolding has
has_more u a r m = or_right (eqb u a) (has a r) m

pub some : {a : ℕ} → None ≡ Some a → ⊥
some q = let no : ◌≡◌ {A = ℕ} 0 1 = cc in omega arith

module _ (asked : List ℕ) where
  anchor-here : (u : ℕ) (r : List ℕ) → is_asked asked u ≡ true → anchor_in asked (u ∷ r) ≡ Some u
  unfolding anchor_in
  anchor-here u r e = rw e

  anchor-past : (u : ℕ) (r : List ℕ) → is_asked asked u ≡ false → anchor_in asked (u ∷ r) ≡ anchor_in asked r
  unfolding anchor_in
  anchor-past u r e = rw e

  -- an anchor that names a node names one of the list that is asked for
  pub anchor-found : (a : ℕ) (r : List ℕ) → anchor_in asked r ≡ Some a → (has a r ≡ true) × (is_asked asked a ≡ true)
  unfolding anchor_in
  anchor-found a [] q = absurd (some q)
  anchor-found a (u ∷ r) q = go (anchor-found a r) (is_asked asked u) refl
    where
      go :
          (anchor_in asked r ≡ Some a → (has a r ≡ true) × (is_asked asked a ≡ true))
          → (b : Bool) → is_asked asked u ≡ b → (has a (u ∷ r) ≡ true) × (is_asked asked a ≡ true)
      go ih true e =
          let same : u ≡ a = let z = sym (anchor-here u r e) ∙ q in cc in
          subst (λ (v : ℕ). (has v (u ∷ r) ≡ true) × (is_asked asked v ≡ true)) same (has_head u r, e)
      go ih false e = let z = ih (sym (anchor-past u r e) ∙ q) in (has_more u a r z.0, z.1)

module _ (t : Tree) (asked : List ℕ) where
  module _ (x : ℕ) (h : Home t x) where
    -- its own where it is asked for, else that of its parent; none at a root that is not asked for
    pub anchor-own : is_asked asked x ≡ true → anchor t asked x ≡ Some x
    unfolding anchor
    anchor-own e = let z = way_head t (way t x h) in ap (anchor_in asked) z.1 ∙ anchor-here asked x z.0 e

    pub anchor-up : is_asked asked x ≡ false → eqb x t.root ≡ false → anchor t asked x ≡ anchor t asked (t.up x)
    unfolding anchor
    anchor-up e r = ap (anchor_in asked) (route-step t x h r) ∙ anchor-past asked x _ e

    pub anchor-top : is_asked asked x ≡ false → eqb x t.root ≡ true → anchor t asked x ≡ None
    unfolding anchor anchor_in
    anchor-top e r = ap (anchor_in asked) (route-root t x h r) ∙ anchor-past asked x [] e

    pub anchor_other : is_asked asked x ≡ false → anchor t asked x ≡ Some x → ⊥
    unfolding anchor
    anchor_other e q = clash (anchor-found asked x (route t x) q).1 e

  -- a node asked for on a way is above the anchor
  pub way-anchor :
      {u : ℕ} {r : List ℕ}
      → Way t u r → Home t u → (y : ℕ) → has y r ≡ true → is_asked asked y ≡ true
      → (a : ℕ) × (anchor_in asked r ≡ Some a) × (has a r ≡ true) × (under t y a ≡ true)
  unfolding has under
  way-anchor (top {u} e) h y m o =
      either (eqb u y) false m
      (λ q. let same = eqb-true u y q in (
        u,
        anchor-here asked u [] (subst (λ (v : ℕ). is_asked asked v ≡ true) (sym same) o),
        has_head u [],
        subst (λ (r : List ℕ). has y r ≡ true) (way_only t (top e) (way t u h)) m,
      ))
      (λ q c. clash c refl)
  way-anchor (hop {u} {r} e w) h y m o = go (way-anchor w (home-step t u h e) y) (is_asked asked u) refl
    where
      go :
          (has y r ≡ true
          → is_asked asked y ≡ true → (a : ℕ) × (anchor_in asked r ≡ Some a) × (has a r ≡ true) × (has y (route t a) ≡ true))
          → (b : Bool) → is_asked asked u ≡ b
          → (a : ℕ) × (anchor_in asked (u ∷ r) ≡ Some a) × (has a (u ∷ r) ≡ true) × (has y (route t a) ≡ true)
      go ih true p = (u, anchor-here asked u r p, has_head u r, subst (λ (s : List ℕ). has y s ≡ true) (way_only t (hop e w) (way t u h)) m)
      go ih false p =
          either (eqb u y) (has y r) m
          (λ q. clash o (subst (λ (v : ℕ). is_asked asked v ≡ false) (eqb-true u y q) p))
          (λ q c. let z = ih c o in (z.0, anchor-past asked u r p ∙ z.1, has_more u z.0 r z.2, z.3))

  module _ (all : (u : ℕ) → u < t.size → Home t u) where
    same_over :
        (p q : ℕ)
        → p < t.size → q < t.size → anchor t asked p ≡ anchor t asked q → (y : ℕ) → is_asked asked y ≡ true → under t y p ≡ true
        → under t y q ≡ true
    unfolding anchor under
    same_over p q lp lq s y o m =
        let z = way-anchor (way t p (all p lp)) (all p lp) y m o in
        let on = anchor-found asked z.0 (route t q) (sym s ∙ z.1) in
        under_trans t z.0 y q (all q lq) on.0 z.3

    -- of two nodes with one anchor
    pub anchor-same :
        (p q : ℕ)
        → p < t.size → q < t.size → anchor t asked p ≡ anchor t asked q → (y : ℕ) → is_asked asked y ≡ true
        → under t y p ≡ under t y q
    anchor-same p q lp lq s y o = go (under t y p) refl
      where
        go : (b : Bool) → under t y p ≡ b → under t y p ≡ under t y q
        go true e = e ∙ sym (same_over p q lp lq s y o e)
        go false e = e ∙ sym (not_so (under t y q) (λ m. clash (same_over q p lq lp (sym s) y o m) e))
