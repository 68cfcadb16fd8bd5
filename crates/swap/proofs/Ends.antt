-- Which end of a swap link is below: the end that the mark names is in T(x) and is z, its other end is not and is z'. Assumes nothing.
use mathlib.Core.Path.{◌≡◌, refl, sym, subst}
use mathlib.Core.Bool.{Bool, true, false, cond}
use Prim.Native.Nat.{ℕ, ◌≤◌}
use native.Mathlib.Omega.{arith}
use lib.Dec.{eqb}
use borrow.Author.Tests.{eqb-true, eqb-false}
use Rattle.edition.specs.declared.Measure.{Measure}
use Rattle.edition.specs.declared.Swap.{Swap}
use Rattle.edition.specs.Entries.{first_end, second_end, swap_state, swap_by}
use Rattle.rows.proofs.Tests.{clash, and_left, and_right}
use Rattle.network.specs.declared.Link.{Link}
use Rattle.network.specs.Network.{Net}
use Rattle.tree.specs.Tree.{Tree, tree_of, under}
use Rattle.swap.specs.Swap.{inner_end, outer_end, lower_mark, crosses, within, candidate}
use Rattle.swap.specs.Entry.{entry}
use Rattle.swap.proofs.Costing.{crossing_splits}
use Rattle.swap.proofs.Stating.{entry-holds}

-- the end of a link that a mark names, and its other end
pub end_by : ℕ → Link → ℕ
end_by mark l = cond (eqb mark first_end) l.first l.second

pub other_by : ℕ → Link → ℕ
other_by mark l = cond (eqb mark first_end) l.second l.first

-- what a mark says of link l: it is 0 or 1, the end that it names is in T(x), is z and is within the depth, and the other end is not
-- in T(x) and is z'
pub record Below (g : Net) (x : ℕ) (l : Link) (mark : ℕ) : Type 0 where
  pub small : mark ≤ second_end
  pub in_side : under (tree_of g) x (end_by mark l) ≡ true
  pub out_side : under (tree_of g) x (other_by mark l) ≡ false
  pub is_z : end_by mark l ≡ inner_end (tree_of g) x l
  pub is_other : other_by mark l ≡ outer_end (tree_of g) x l
  pub near : within (tree_of g) g.search.depth x (end_by mark l) ≡ true

module _ (t : Tree) (x : ℕ) (l : Link) where
  -- the mark of z is 0 or 1 and names z, and the other end is z'
  mark_names : (lower_mark t x l ≤ second_end) × (end_by (lower_mark t x l) l ≡ inner_end t x l) × (other_by (lower_mark t x l) l ≡ outer_end t x l)
  unfolding end_by other_by lower_mark inner_end outer_end
  mark_names = go (under t x l.first) refl
    where
      go :
          (b : Bool) → under t x l.first ≡ b
          → (lower_mark t x l ≤ second_end) × (end_by (lower_mark t x l) l ≡ inner_end t x l) × (other_by (lower_mark t x l) l ≡ outer_end t x l)
      go true e = (rw e (omega arith), rw e, rw e)
      go false e = (rw e (omega arith), rw e, rw e)

module _ (g : Net) (x : ℕ) where
  -- of a candidate the mark of z says this
  candidate-below : (e : ℕ) → candidate g x e ≡ true → Below g x (g.link e) (lower_mark (tree_of g) x (g.link e))
  unfolding candidate
  candidate-below e c =
      let t = tree_of g in
      let l = g.link e in
      let z = mark_names t x l in
      let split = crossing_splits t x l e (and_left (crosses t x e l) _ c) in
      record {
        small = z.0;
        in_side = rw z.1 split.0;
        out_side = rw z.2 split.1;
        is_z = z.1;
        is_other = z.2;
        near = rw z.1 (and_right (crosses t x e l) _ c);
      }

  -- in state 1, under each measure
  pub entry-below : (s : Measure) → (entry g x).state ≡ swap_state → Below g x (g.link (swap_by (entry g x) s).link) (swap_by (entry g x) s).lower
  entry-below s q =
      let h = entry-holds g x s q in
      subst (Below g x (g.link (swap_by (entry g x) s).link)) (sym h.2) (candidate-below (swap_by (entry g x) s).link h.0.stands)

  -- no other mark says it: one that is 0 or 1 and names an end in T(x) is the entry's
  pub below_only :
      (s : Measure)
      → (entry g x).state ≡ swap_state → (mark : ℕ) → mark ≤ second_end
      → under (tree_of g) x (end_by mark (g.link (swap_by (entry g x) s).link)) ≡ true → mark ≡ (swap_by (entry g x) s).lower
  unfolding end_by other_by
  below_only s q mark l u =
      let k = swap_by (entry g x) s in
      let b = entry-below s q in
      go (eqb mark first_end) refl (eqb k.lower first_end) refl b.out_side b.small
    where
      go :
          (m : Bool) → eqb mark first_end ≡ m → (i : Bool) → eqb (swap_by (entry g x) s).lower first_end ≡ i
          → under (tree_of g) x (other_by (swap_by (entry g x) s).lower (g.link (swap_by (entry g x) s).link)) ≡ false
          → (swap_by (entry g x) s).lower ≤ second_end → mark ≡ (swap_by (entry g x) s).lower
      go true e true f o n = omega (arith, eqb-true mark first_end e, eqb-true (swap_by (entry g x) s).lower first_end f)
      go true e false f o n = clash (rw e at u) (rw f at o)
      go false e true f o n = clash (rw e at u) (rw f at o)
      go false e false f o n = omega (arith, l, n, eqb-false mark first_end e, eqb-false (swap_by (entry g x) s).lower first_end f)

  -- in state 1, under each measure: 0 exactly where the first end is in T(x), 1 exactly where the second is
  module _ (s : Measure) (q : (entry g x).state ≡ swap_state) where
    abbrev swap : Swap
    swap = swap_by (entry g x) s

    abbrev link : Link
    link = g.link swap.link

    below : Below g x link swap.lower
    below = entry-below s q

    pub mark_first : (swap.lower ≡ 0 → under (tree_of g) x link.first ≡ true) × (under (tree_of g) x link.first ≡ true → swap.lower ≡ 0)
    unfolding end_by
    mark_first = (
      λ e. subst (λ (m : ℕ). under (tree_of g) x (end_by m link) ≡ true) e below.in_side,
      λ u. sym (below_only s q 0 (omega arith) u),
    )

    pub mark_second : (swap.lower ≡ 1 → under (tree_of g) x link.second ≡ true) × (under (tree_of g) x link.second ≡ true → swap.lower ≡ 1)
    unfolding end_by
    mark_second = (
      λ e. subst (λ (m : ℕ). under (tree_of g) x (end_by m link) ≡ true) e below.in_side,
      λ u. sym (below_only s q 1 (omega arith) u),
    )
