-- Ranks: two nodes have one rank exactly where they have one anchor, and of two the one whose anchor has no more nodes below it is not
-- above the other. Assumes nothing.
use Rattle.std.specs.Prelude.{None, Option, Some}
use Rattle.std.proofs.Common.{◌≡◌, ℕ, suc, ◌+◌, ◌*◌, ◌/◌, ◌%◌, ◌<◌, ◌≤◌, Bool, true, false, eqb, List, sym, refl, ap, ◌∙◌, subst, arith, eqb-true}
use borrow.Author.Tests.{eqb-false}
use Rattle.edition.specs.Limits.{node_limit, no_node}
use Rattle.rows.proofs.Tests.{not_so}
use Rattle.network.specs.Network.{Net}
use Rattle.tree.specs.Tree.{Tree, tree_of, route, under}
use Rattle.tree.proofs.Ways.{Home, way, under_trans}
use Rattle.tree.proofs.Bounded.{under-below}
use Rattle.survey.specs.declared.Known.{Known}
use Rattle.survey.specs.Known.{count}
use Rattle.sound.specs.Surveyed.{Surveyed}
use Rattle.table.specs.Table.{is_asked}
use Rattle.table.specs.Work.{anchor, rank_step, rank_of, rank_by, rank}
use Rattle.table.proofs.Anchors.{anchor-found, anchor-own, anchor-up, anchor-top, anchor_other, way-anchor, anchor-same, some}
use Rattle.table.proofs.Surveys.{homes, closed, small, count-few}
use Rattle.table.proofs.TwoSides.{count-more}

-- one rank for each node
rank-one : (c c' : ℕ) {x x' : ℕ} → x < node_limit → x' < node_limit → rank_of c x ≡ rank_of c' x' → x ≡ x'
unfolding rank_of
rank-one c c' l l' q = omega (arith, l, l', q)

-- the two parts of a rank
pub rank_parts : (c : ℕ) {x : ℕ} → x < node_limit → (rank_of c x / rank_step ≡ c) × (rank_of c x % rank_step ≡ suc x)
unfolding rank_of
rank_parts c l = (omega (arith, l), omega (arith, l))

pub rank_high : {c x : ℕ} → x < node_limit → c ≤ node_limit → rank_of c x < no_node * rank_step
unfolding rank_of
rank_high l m = omega (arith, l, m)

-- what the code adds up
pub rank_is : {k k' : Known} (x : ℕ) → k ≡ k' → k.count * rank_step + x + 1 ≡ rank_of k'.count x
unfolding rank_of
rank_is x q = omega (arith, ap (λ (k : Known). k.count) q)

-- a rank is not 0
pub rank_of_some : (c x : ℕ) → rank_of c x ≡ 0 → ⊥
unfolding rank_of
rank_of_some c x q = omega arith

rank_by_some : (t : Tree) (f : Option ℕ) → rank_by t f ≡ 0 → ⊥
unfolding rank_by
rank_by_some t None q = omega arith
rank_by_some t (Some x) q = rank_of_some (count t x) x q

module _ (t : Tree) (asked : List ℕ) where
  pub rank_some : (u : ℕ) → rank t asked u ≡ 0 → ⊥
  unfolding rank
  rank_some u q = rank_by_some t (anchor t asked u) q

  module _ (x : ℕ) (h : Home t x) where
    -- its own where it is asked for, else that of its parent; that of none at a root that is not asked for
    pub rank-own : is_asked asked x ≡ true → rank t asked x ≡ rank_of (count t x) x
    unfolding rank rank_by
    rank-own e = ap (rank_by t) (anchor-own t asked x h e)

    pub rank_up : is_asked asked x ≡ false → eqb x t.root ≡ false → rank t asked x ≡ rank t asked (t.up x)
    unfolding rank
    rank_up e r = ap (rank_by t) (anchor-up t asked x h e r)

    pub rank-top : is_asked asked x ≡ false → eqb x t.root ≡ true → rank t asked x ≡ no_node * rank_step
    unfolding rank rank_by
    rank-top e r = ap (rank_by t) (anchor-top t asked x h e r)

-- in a surveyed network
module _ {g : Net} {survey : List ℕ} (s : Surveyed g survey) (asked : List ℕ) where
  abbrev t : Tree
  t = tree_of g

  -- an anchor is a node
  found_in : (u : ℕ) → u < t.size → (a : ℕ) → anchor t asked u ≡ Some a → a < t.size
  unfolding anchor under
  found_in u l a q = under-below t (closed s) u a (homes s u l) l (anchor-found asked a (route t u) q).0

  found-low : (u : ℕ) → u < t.size → (a : ℕ) → anchor t asked u ≡ Some a → a < node_limit
  found-low u l a q = omega (arith, found_in u l a q, small s)

  by_one : (f f' : Option ℕ) → ((a : ℕ) → f ≡ Some a → a < node_limit) → ((a : ℕ) → f' ≡ Some a → a < node_limit) → rank_by t f ≡ rank_by t f' → f ≡ f'
  unfolding rank_by
  by_one None None l l' q = refl
  by_one None (Some y) l l' q = absurd (omega (arith, rank_high (l' y refl) (count-few s y), q))
  by_one (Some x) None l l' q = absurd (omega (arith, rank_high (l x refl) (count-few s x), q))
  by_one (Some x) (Some y) l l' q = ap Some (rank-one (count t x) (count t y) (l x refl) (l' y refl) q)

  -- of two nodes with one rank, each node asked for has both below it or none of them
  pub rank_same :
      (p q : ℕ)
      → p < t.size → q < t.size → rank t asked p ≡ rank t asked q → (y : ℕ) → is_asked asked y ≡ true
      → under t y p ≡ under t y q
  unfolding rank
  rank_same p q lp lq e =
      anchor-same t asked (homes s) p q lp lq (by_one (anchor t asked p) (anchor t asked q) (found-low p lp) (found-low q lq) e)

  -- a node that is not asked for has another number in its rank
  by_number : (f : Option ℕ) → ((a : ℕ) → f ≡ Some a → a < node_limit) → (x : ℕ) → rank_by t f % rank_step ≡ suc x → f ≡ Some x
  unfolding rank_by
  by_number None l x q = absurd (omega (arith, q))
  by_number (Some a) l x q = ap Some (omega (arith, (rank_parts (count t a) (l a refl)).1, q))

  pub rank_other : (x : ℕ) → x < t.size → is_asked asked x ≡ false → rank t asked x % rank_step ≡ suc x → ⊥
  unfolding rank
  rank_other x l e q = anchor_other t asked x (homes s x l) e (by_number (anchor t asked x) (found-low x l) x q)

  module _ (u v : ℕ) (lu : u < t.size) (lv : v < t.size) (m : under t u v ≡ true) where
    -- where u is above v, an anchor of u is above one of v
    above : (x : ℕ) → anchor t asked u ≡ Some x → (a : ℕ) × (anchor t asked v ≡ Some a) × (under t x a ≡ true)
    unfolding anchor under
    above x e =
        let on = anchor-found asked x (route t u) e in
        let z = way-anchor t asked (way t v (homes s v lv)) (homes s v lv) x (under_trans t u x v (homes s v lv) m on.0) on.1 in
        (z.0, z.1, z.3)

    one-anchor : (x a : ℕ) → anchor t asked u ≡ Some x → anchor t asked v ≡ Some a → under t x a ≡ true → count t x ≤ count t a → x ≡ a
    one-anchor x a e f o le = go (eqb x a) refl
      where
        go : (b : Bool) → eqb x a ≡ b → x ≡ a
        go true q = eqb-true x a q
        go false q = absurd (omega (arith, le, count-more t (homes s) x a (found_in u lu x e) (found_in v lv a f) o (eqb-false x a q)))

    over : (f f' : Option ℕ) → anchor t asked u ≡ f → anchor t asked v ≡ f' → rank_by t f / rank_step ≤ rank_by t f' / rank_step → f ≡ f'
    unfolding rank_by
    over None None e e' le = refl
    over None (Some a) e e' le = absurd (omega (arith, le, (rank_parts (count t a) (found-low v lv a e')).0, count-few s a))
    over (Some x) None e e' le = let z = above x e in absurd (some (sym e' ∙ z.1))
    over (Some x) (Some a) e e' le =
        let z = above x e in
        let same : z.0 ≡ a = let q = sym z.1 ∙ e' in cc in
        ap Some
        (one-anchor x a e e' (subst (λ (y : ℕ). under t x y ≡ true) same z.2)
        (omega (arith, le, (rank_parts (count t x) (found-low u lu x e)).0, (rank_parts (count t a) (found-low v lv a e')).0)))

  -- of two ranks, the node whose anchor has no more nodes below it is not above the other
  pub rank-over :
      (u v : ℕ)
      → u < t.size → v < t.size → rank t asked u / rank_step ≤ rank t asked v / rank_step → (rank t asked u ≡ rank t asked v → ⊥)
      → under t u v ≡ false
  unfolding rank
  rank-over u v lu lv l n = not_so (under t u v) (λ m. n (ap (rank_by t) (over u v lu lv m (anchor t asked u) (anchor t asked v) refl refl l)))
