-- At depth 510 the candidates are those of the whole search: no lower end is further below a node that is not the root.
-- The depth belongs to what is filed all the same. Assumes nothing.
use Rattle.std.specs.Prelude.{None, Option, Some}
use mathlib.Core.Path.{◌≡◌, refl, sym, ap, ◌∙◌}
use mathlib.Core.Bool.{Bool, true, false}
use Prim.Native.Nat.{ℕ, ◌<◌, ◌≤◌}
use native.Mathlib.Omega.{arith}
use lib.Dec.{eqb}
use borrow.Author.Tests.{eqb-false, le-leb}
use Rattle.edition.specs.declared.Measure.{Measure}
use Rattle.edition.specs.declared.Measure.TheVariants.{Sum, Incr, Max}
use Rattle.edition.specs.Limits.{depth_limit, whole_search}
use Rattle.edition.specs.Entries.{bridge_state}
use Rattle.rows.proofs.Best.{best_cong}
use Rattle.rows.proofs.Counting.{some_cong}
use Rattle.network.specs.Network.{Net}
use Rattle.tree.specs.Tree.{tree_of, hops}
use Rattle.tree.proofs.Bounded.{hops-few}
use Rattle.sound.proofs.Sounds.{Sound}
use Rattle.sound.proofs.Holding.{nodes-few, first_in, second_in, home, up_in}
use Rattle.swap.specs.Swap.{inner_end, crosses, within, candidate, cost_of, key, before, best}
use Rattle.swap.specs.Entry.{crossed, has_candidate, state, priced, swap_of, entry}
use Rattle.swap.proofs.Choosing.{best_by}
use Rattle.swap.proofs.Stating.{state_below, entry-root, entry-own, bridge_uncrossed, uncrossed_bridge}
use Rattle.swap.proofs.Costing.{crossing_splits, of_inner}

-- the same network at another depth
unfoldable pub at_depth : Net → ℕ → Net
at_depth g depth =
    record {
      nodes = g.nodes;
      links = g.links;
      link = g.link;
      parent = g.parent;
      search = record { root = g.search.root; depth = depth; rule = g.search.rule };
    }

module _ (g : Net) (s : Sound g) (x : ℕ) (far : eqb x g.search.root ≡ false) where
  -- every lower end is within 510 hops
  near : (e : ℕ) → e < g.links → crosses (tree_of g) x e (g.link e) ≡ true → hops (tree_of g) x (inner_end (tree_of g) x (g.link e)) ≤ depth_limit
  unfolding tree_of
  near e l c =
      let z = inner_end (tree_of g) x (g.link e) in
      let lz : z < g.nodes = of_inner (tree_of g) x (g.link e) (λ u. u < g.nodes) (first_in g s e l) (second_in g s e l) in
      omega (
        arith,
        nodes-few g s,
        hops-few (tree_of g) (up_in g s) x z (home g s z lz) (crossing_splits (tree_of g) x (g.link e) e c).0 (eqb-false x g.search.root far) lz,
      )

  both_within :
      (e : ℕ)
      → e < g.links → (b : Bool) → crosses (tree_of g) x e (g.link e) ≡ b
      → candidate (at_depth g depth_limit) x e ≡ candidate (at_depth g whole_search) x e
  unfolding candidate within at_depth tree_of
  both_within e l true c = rw (c, le-leb (hops (tree_of g) x (inner_end (tree_of g) x (g.link e))) depth_limit (near e l c))
  both_within e l false c = rw c

  -- the candidates at depth 510 are the whole search's
  pub same_candidates : (e : ℕ) → e < g.links → candidate (at_depth g depth_limit) x e ≡ candidate (at_depth g whole_search) x e
  same_candidates e l = both_within e l (crosses (tree_of g) x e (g.link e)) refl

  same-best : (m : Measure) → best m (at_depth g depth_limit) x ≡ best m (at_depth g whole_search) x
  unfolding before key cost_of at_depth tree_of
  same-best m =
      best_by m (at_depth g depth_limit) x
      ∙ (best_cong _ _ _ _ g.links same_candidates (λ i j l k p q. refl) ∙ sym (best_by m (at_depth g whole_search) x))

  same_swap : (m : Measure) → swap_of m (at_depth g depth_limit) x ≡ swap_of m (at_depth g whole_search) x
  unfolding swap_of priced cost_of at_depth tree_of
  same_swap m = ap (priced m (at_depth g depth_limit) x) (same-best m) ∙ same_price (best m (at_depth g whole_search) x)
    where
      same_price : (f : Option ℕ) → priced m (at_depth g depth_limit) x f ≡ priced m (at_depth g whole_search) x f
      same_price None = refl
      same_price (Some e) = refl

  same-reach : has_candidate (at_depth g depth_limit) x ≡ has_candidate (at_depth g whole_search) x
  unfolding has_candidate at_depth
  same-reach = some_cong _ _ g.links same_candidates

  same-state : state_below (at_depth g depth_limit) x ≡ state_below (at_depth g whole_search) x
  unfolding state_below crossed at_depth tree_of
  same-state = rw same-reach

-- and so are the entries
pub same-entry : (g : Net) → Sound g → (x : ℕ) → entry (at_depth g depth_limit) x ≡ entry (at_depth g whole_search) x
unfolding at_depth
same-entry g s x = go (eqb x g.search.root) refl
  where
    go : (b : Bool) → eqb x g.search.root ≡ b → entry (at_depth g depth_limit) x ≡ entry (at_depth g whole_search) x
    go true q = rw (entry-root (at_depth g depth_limit) x q, entry-root (at_depth g whole_search) x q)
    go false q =
        rw (entry-own (at_depth g depth_limit) x q, entry-own (at_depth g whole_search) x q)
        (λ i.
        record {
          state = same-state g s x q i;
          sum = same_swap g s x q Sum i;
          incr = same_swap g s x q Incr i;
          max = same_swap g s x q Max i;
        })

-- a bridge at one depth is a bridge at every depth
pub bridge_stays : (g : Net) (x depth : ℕ) → eqb x g.search.root ≡ false → state g x ≡ bridge_state → state (at_depth g depth) x ≡ bridge_state
unfolding at_depth tree_of
bridge_stays g x depth r q = uncrossed_bridge (at_depth g depth) x r (bridge_uncrossed g x r q)
