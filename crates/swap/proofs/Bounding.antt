-- In every sound network incr and max are at most 33,488,385 and sum at most 17,112,564,735. Lengths are 16-bit numbers, which
-- the laws take as their one hypothesis beside soundness. Assumes nothing.
use Rattle.std.specs.Prelude.{None, Option, Some}
use mathlib.Core.Path.{◌≡◌, refl}
use mathlib.Core.Bool.{Bool, true, false}
use Prim.Native.Nat.{ℕ, ◌-◌, ◌<◌, ◌≤◌}
use native.Mathlib.Omega.{arith}
use lib.Dec.{eqb}
use borrow.Author.Tests.{eqb-false}
use Rattle.edition.specs.declared.Measure.{Measure}
use Rattle.edition.specs.declared.Measure.TheVariants.{Sum, Incr, Max}
use Rattle.edition.specs.Limits.{longest, way_limit, sum_limit}
use Rattle.rows.proofs.Tests.{not_so}
use Rattle.rows.proofs.Counting.{max_bound, sum_but_one}
use Rattle.network.specs.Network.{Net}
use Rattle.tree.specs.Tree.{tree_of, dist, under, inside}
use Rattle.tree.proofs.Ways.{above_root}
use Rattle.tree.proofs.Bounded.{around_bound}
use Rattle.tree.proofs.Made.{rise-flat, rise_held}
use Rattle.sound.proofs.Sounds.{Sound}
use Rattle.sound.proofs.Holding.{nodes-few, root_in, first_in, second_in, home, up_in}
use Rattle.survey.proofs.Inside.{inside-small, inside-out}
use Rattle.swap.specs.Swap.{inner_end, outer_end, crosses, new_dist, cost, cost_of, best}
use Rattle.swap.specs.Entry.{priced, swap_of, entry}
use Rattle.swap.proofs.Choosing.{chosen}
use Rattle.swap.proofs.Stating.{candidate-crosses, entry-root, entry-own}
use Rattle.swap.proofs.Costing.{crossing_splits, of_inner, of_outer}

-- the limits in figures
pub way_limit_lem : way_limit ≡ 33488385
way_limit_lem = refl

pub sum_limit_lem : sum_limit ≡ 17112564735
sum_limit_lem = refl

-- the most that a measure can come to
limit_of : Measure → ℕ
limit_of Sum = sum_limit
limit_of Incr = way_limit
limit_of Max = way_limit

module _ (g : Net) (s : Sound g) (held : (e : ℕ) → (g.link e).length ≤ longest) where
  module _ (x : ℕ) (far : eqb x g.search.root ≡ false) (e : ℕ) (le : e < g.links) (c : crosses (tree_of g) x e (g.link e) ≡ true) where
    -- an end of a link is a node
    low_in : inner_end (tree_of g) x (g.link e) < g.nodes
    low_in = of_inner (tree_of g) x (g.link e) (λ u. u < g.nodes) (first_in g s e le) (second_in g s e le)

    up-there : outer_end (tree_of g) x (g.link e) < g.nodes
    up-there = of_outer (tree_of g) x (g.link e) (λ u. u < g.nodes) (first_in g s e le) (second_in g s e le)

    -- N(u) is at most the lengths of 511 links
    new_bound : (u : ℕ) → u < g.nodes → under (tree_of g) x u ≡ true → new_dist (tree_of g) x (g.link e) u ≤ way_limit
    unfolding new_dist tree_of
    new_bound u l p =
        let z = crossing_splits (tree_of g) x (g.link e) e c in
        omega (
          arith,
          around_bound (tree_of g) (up_in g s) x u (inner_end (tree_of g) x (g.link e)) (outer_end (tree_of g) x (g.link e))
              (home g s u l) (home g s _ low_in) (home g s _ up-there) l low_in up-there p z.0 z.1
              longest (rise_held g held) (rise-flat g) (g.link e).length (held e),
          nodes-few g s,
        )

    -- the root is not in T(x)
    root-out : under (tree_of g) x g.search.root ≡ false
    unfolding tree_of
    root-out =
        not_so (under (tree_of g) x g.search.root)
        (λ p. eqb-false x g.search.root far (above_root (tree_of g) x (home g s g.search.root (root_in g s)) p))

    cost_bound : (m : Measure) → cost m (tree_of g) x (g.link e) ≤ limit_of m
    unfolding cost limit_of tree_of
    cost_bound Sum =
        omega (
          arith,
          sum_but_one (inside (tree_of g) x (new_dist (tree_of g) x (g.link e))) g.nodes way_limit g.search.root (root_in g s)
              (inside-out (tree_of g) x (new_dist (tree_of g) x (g.link e)) g.search.root root-out)
              (λ u l. inside-small (tree_of g) x (new_dist (tree_of g) x (g.link e)) u way_limit (new_bound u l)),
          nodes-few g s,
        )
    cost_bound Incr =
        max_bound _ g.nodes way_limit
        (λ u l. inside-small (tree_of g) x (λ u. new_dist (tree_of g) x (g.link e) u - dist (tree_of g) u) u way_limit (λ p. omega (arith, new_bound u l p)))
    cost_bound Max =
        max_bound _ g.nodes way_limit
        (λ u l. inside-small (tree_of g) x (new_dist (tree_of g) x (g.link e)) u way_limit (new_bound u l))

  -- so is every cost of an entry
  module _ (x : ℕ) (far : eqb x g.search.root ≡ false) (m : Measure) where
    priced_bound : (f : Option ℕ) → best m g x ≡ f → (priced m g x f).cost ≤ limit_of m
    unfolding priced cost_of
    priced_bound None q = omega arith
    priced_bound (Some e) q =
        let b = chosen m g x e q in
        cost_bound x far e b.low (candidate-crosses g x e b.stands) m

    swap_bound : (swap_of m g x).cost ≤ limit_of m
    unfolding swap_of
    swap_bound = priced_bound (best m g x) refl

  pub entry_bound : (x : ℕ) → ((entry g x).sum.cost ≤ sum_limit) × ((entry g x).incr.cost ≤ way_limit) × ((entry g x).max.cost ≤ way_limit)
  unfolding limit_of
  entry_bound x = go (eqb x g.search.root) refl
    where
      go : (b : Bool) → eqb x g.search.root ≡ b → ((entry g x).sum.cost ≤ sum_limit) × ((entry g x).incr.cost ≤ way_limit) × ((entry g x).max.cost ≤ way_limit)
      go true q = rw (entry-root g x q) (omega arith, omega arith, omega arith)
      go false q = rw (entry-own g x q) (swap_bound x q Sum, swap_bound x q Incr, swap_bound x q Max)
