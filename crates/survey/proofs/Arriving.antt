-- Sums in a walk up the order: what a node's sum is, is added up from the numbers that have come to it; at the end, from those of
-- all nodes below it. Assumes nothing.
use mathlib.Core.Path.{◌≡◌, refl, sym, ap, ◌∙◌}
use mathlib.Core.Bool.{Bool, ◌||◌}
use mathlib.Core.List.{List}
use Prim.Native.Nat.{ℕ, suc, ◌+◌, ◌*◌, ◌<◌, ◌≤◌}
use lib.Dec.{eqb}
use lib.ListN.{get_or}
use borrow.Author.Tests.{eq-eqb, ne_eqb}
use Rattle.rows.specs.Count.{sum_to, only_if}
use Rattle.rows.specs.Lists.{has}
use Rattle.rows.proofs.Tests.{or_none}
use Rattle.rows.proofs.Counting.{sum_bound, only_small}
use Rattle.tree.specs.Tree.{Tree, route, under, inside}
use Rattle.tree.proofs.Ways.{Way, way}
use Rattle.survey.specs.Work.{Order}
use Rattle.survey.proofs.Folding.{sums}
use Rattle.survey.proofs.Seen.{seen, seen_start, seen_end, seen_more, seen_apart}

-- has the number of u come to x, where the nodes from place i on have been passed on?
abbrev comes : Tree → (ℕ → ℕ) → ℕ → ℕ → ℕ → Bool
comes t place i x u = has x (seen place i (route t u))

-- the sum of the numbers that have come to x
pub arrived : Tree → (ℕ → ℕ) → (ℕ → ℕ) → ℕ → ℕ → ℕ
arrived t place f i x = sum_to (λ u. only_if (comes t place i x u) (f u)) t.size

pub arrived_small : (t : Tree) (place f : ℕ → ℕ) (i x most : ℕ) → ((u : ℕ) → f u ≤ most) → arrived t place f i x ≤ t.size * most
unfolding arrived
arrived_small t place f i x most h =
    sum_bound (λ u. only_if (comes t place i x u) (f u)) t.size most (λ u l. only_small (comes t place i x u) (f u) most (λ e. h u))

module _ (t : Tree) (order : List ℕ) (o : Order t order) (f : ℕ → ℕ) where
  way_of : (u : ℕ) → u < t.size → Way t u (route t u)
  way_of u l = way t u (o.home u l)

  retest : (a b : ℕ → Bool) → ((u : ℕ) → u < t.size → a u ≡ b u) → sum_to (λ u. only_if (a u) (f u)) t.size ≡ sum_to (λ u. only_if (b u) (f u)) t.size
  retest a b h =
      sums.alike (λ u. only_if (a u) (f u)) (λ u. only_if (b u) (f u)) t.size
      (λ u l. ap (λ (c : Bool). only_if c (f u)) (h u l))

  -- at first every number is at its own node
  pub arrived_start : (x : ℕ) → x < t.size → arrived t o.place f t.size x ≡ f x
  unfolding arrived
  arrived_start x k =
      retest (comes t o.place t.size x) (λ u. eqb u x) (λ u j. seen_start t order o (way_of u j) j x) ∙ sums.single f x t.size k

  -- at last all of T(x) has come to x
  pub arrived_end : (x : ℕ) → arrived t o.place f 1 x ≡ sum_to (inside t x f) t.size
  unfolding inside under arrived
  arrived_end x = retest (comes t o.place 1 x) (under t x) (λ u k. ap (has x) (seen_end t order o (way_of u k) k))

  module _ (next : ℕ) (l : next < t.size) (far : get_or order next 0 ≡ t.root → ⊥) where
    abbrev v : ℕ
    v = get_or order next 0

    -- what had come to v comes to its parent
    pub arrived_up :
        arrived t o.place f next (t.up (get_or order next 0)) ≡
        arrived t o.place f (suc next) (t.up (get_or order next 0)) + arrived t o.place f (suc next) (get_or order next 0)
    unfolding arrived
    arrived_up =
        retest (comes t o.place next (t.up v)) (λ u. comes t o.place (suc next) (t.up v) u || comes t o.place (suc next) v u)
        (λ u k. rw (seen_more t order o next l far (way_of u k) k (t.up v), eq-eqb (t.up v) (t.up v) refl) refl)
        ∙ sums.joins f (comes t o.place (suc next) (t.up v)) (comes t o.place (suc next) v) t.size
        (λ u k. seen_apart t order o next l far (way_of u k) k)

    -- and nothing else changes
    pub arrived_else : (x : ℕ) → (x ≡ t.up (get_or order next 0) → ⊥) → arrived t o.place f next x ≡ arrived t o.place f (suc next) x
    unfolding arrived
    arrived_else x n =
        retest (comes t o.place next x) (comes t o.place (suc next) x)
        (λ u k.
        rw (seen_more t order o next l far (way_of u k) k x, ne_eqb (t.up v) x (λ z. n (sym z)))
        (or_none (comes t o.place (suc next) x u)))
