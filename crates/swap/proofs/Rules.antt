-- The tie rule: what is refused, states, costs and the choice under incr do not depend on which of the two it is, and under rule 1 no
-- candidate of equal cost brings the failed node itself nearer. Assumes nothing.
use Rattle.std.specs.Prelude.{None, Option, Some}
use mathlib.Core.Path.{◌≡◌, refl, sym, ap, ◌∙◌}
use mathlib.Core.Bool.{Bool, true, false, cond}
use Prim.Native.Nat.{ℕ, ◌+◌, ◌<◌, ◌≤◌}
use native.Mathlib.Omega.{arith}
use lib.Dec.{eqb}
use Rattle.edition.specs.declared.Measure.{Measure}
use Rattle.edition.specs.declared.Measure.TheVariants.{Sum, Incr, Max}
use Rattle.edition.specs.declared.Entry.{Entry}
use Rattle.edition.specs.Limits.{nearer_first}
use Rattle.edition.specs.Entries.{swap_state, swap_by, blank}
use Rattle.rows.proofs.Tests.{clash}
use Rattle.network.specs.Network.{Net}
use Rattle.network.specs.Records.{bad_rule, size_verdict, bad_parent}
use Rattle.tree.specs.Tree.{tree_of, dist}
use Rattle.sound.specs.Sound.{no_route, not_short, record_verdict, net_verdict}
use Rattle.sound.proofs.Sounds.{Sound}
use Rattle.swap.specs.Swap.{candidate, new_dist, cost_of, best}
use Rattle.swap.specs.Entry.{crossed, has_candidate, state, priced, swap_of, entry}
use Rattle.swap.proofs.Choosing.{Chosen, chosen, chosen_found, nothing_stands, nothing_found}
use Rattle.swap.proofs.Stating.{candidate-crosses, entry-state, entry-holds}
use Rattle.swap.proofs.Costing.{never_nearer, incr_is}

-- the same network under another tie rule
unfoldable pub at_rule : Net → ℕ → Net
at_rule g rule =
    record {
      nodes = g.nodes;
      links = g.links;
      link = g.link;
      parent = g.parent;
      search = record { root = g.search.root; depth = g.search.depth; rule = rule };
    }

-- under either rule the same is refused
pub verdict_same :
    (g : Net) (rule : ℕ) → bad_rule g.search.rule ≡ false → bad_rule rule ≡ false → net_verdict (at_rule g rule) ≡ net_verdict g
unfolding net_verdict size_verdict record_verdict bad_parent no_route not_short tree_of at_rule
verdict_same g rule p q = rw (p, q)

module _ (g : Net) (rule x : ℕ) where
  -- the state is the same under every rule
  pub state-same : state (at_rule g rule) x ≡ state g x
  unfolding state crossed has_candidate candidate tree_of at_rule
  state-same = refl

  -- what is best under one rule costs what is best under another
  cost-same : (s : Measure) → (swap_of s (at_rule g rule) x).cost ≡ (swap_of s g x).cost
  unfolding swap_of priced candidate cost_of tree_of at_rule
  cost-same s = go (best s (at_rule g rule) x) refl (best s g x) refl
    where
      go :
          (f : Option ℕ) → best s (at_rule g rule) x ≡ f → (h : Option ℕ) → best s g x ≡ h
          → (priced s (at_rule g rule) x f).cost ≡ (priced s g x h).cost
      go None p None q = refl
      go None p (Some c) q = let i = chosen s g x c q in clash i.stands (nothing_stands s (at_rule g rule) x p c i.low)
      go (Some b) p None q = let i = chosen s (at_rule g rule) x b p in clash i.stands (nothing_stands s g x q b i.low)
      go (Some b) p (Some c) q =
          let i = chosen s (at_rule g rule) x b p in
          let j = chosen s g x c q in
          omega (arith, i.least c j.low j.stands, j.least b i.low i.stands)

  -- under incr the best is the same
  incr_chosen : (b : ℕ) → Chosen Incr g x b → Chosen Incr (at_rule g rule) x b
  unfolding candidate cost_of tree_of at_rule
  incr_chosen b i =
      record {
        low = i.low;
        stands = i.stands;
        least = i.least;
        nearest = λ r e l c q. i.least e l c;
        first = λ e l c q n. i.first e l c q (λ r. q);
      }

  incr_best : best Incr (at_rule g rule) x ≡ best Incr g x
  unfolding candidate tree_of at_rule
  incr_best = go (best Incr g x) refl
    where
      go : (f : Option ℕ) → best Incr g x ≡ f → best Incr (at_rule g rule) x ≡ best Incr g x
      go None q = nothing_found Incr (at_rule g rule) x (nothing_stands Incr g x q) ∙ sym q
      go (Some b) q = chosen_found Incr (at_rule g rule) x b (incr_chosen b (chosen Incr g x b q)) ∙ sym q

  incr_same : swap_of Incr (at_rule g rule) x ≡ swap_of Incr g x
  unfolding swap_of priced cost_of tree_of at_rule
  incr_same = ap (priced Incr (at_rule g rule) x) incr_best ∙ priced-same (best Incr g x)
    where
      priced-same : (f : Option ℕ) → priced Incr (at_rule g rule) x f ≡ priced Incr g x f
      priced-same None = refl
      priced-same (Some e) = refl

  -- so is the state of the entry
  pub entry-state-same : (entry (at_rule g rule) x).state ≡ (entry g x).state
  entry-state-same = entry-state (at_rule g rule) x ∙ state-same ∙ sym (entry-state g x)

  -- an entry in state 1
  abbrev own : Net → Entry
  own h = record { state = swap_state; sum = swap_of Sum h x; incr = swap_of Incr h x; max = swap_of Max h x }

  -- and under each measure its cost
  pub entry-cost-same : (s : Measure) → (swap_by (entry (at_rule g rule) x) s).cost ≡ (swap_by (entry g x) s).cost
  unfolding entry
  entry-cost-same s = rw state-same (go s (eqb (state g x) swap_state))
    where
      go :
          (s : Measure) (t : Bool)
          → (swap_by (cond t (own (at_rule g rule)) (blank (state g x))) s).cost ≡ (swap_by (cond t (own g) (blank (state g x))) s).cost
      go Sum true = cost-same Sum
      go Incr true = cost-same Incr
      go Max true = cost-same Max
      go Sum false = refl
      go Incr false = refl
      go Max false = refl

  -- and under incr its swap link too, with cost and mark
  pub entry_incr_same : (entry (at_rule g rule) x).incr ≡ (entry g x).incr
  unfolding entry
  entry_incr_same = rw state-same (go (eqb (state g x) swap_state))
    where
      go : (t : Bool) → (cond t (own (at_rule g rule)) (blank (state g x))).incr ≡ (cond t (own g) (blank (state g x))).incr
      go true = incr_same
      go false = refl

-- under rule 1, of the candidates that cost as much as the swap link none brings the failed node itself nearer, and of those that bring
-- it as near none has a lower number
module _ (g : Net) (sd : Sound g) (x : ℕ) (lx : x < g.nodes) (nearer : g.search.rule ≡ nearer_first)
    (s : Measure) (swap : (entry g x).state ≡ swap_state) where
  abbrev b : ℕ
  b = (swap_by (entry g x) s).link

  module _ (e : ℕ) (le : e < g.links) (c : candidate g x e ≡ true) (as-much : cost_of s g x e ≡ (swap_by (entry g x) s).cost) where
    own_incr : (f : ℕ) → f < g.links → candidate g x f ≡ true → cost_of Incr g x f + dist (tree_of g) x ≡ new_dist (tree_of g) x (g.link f) x
    unfolding cost_of
    own_incr f l k =
        let cross = candidate-crosses g x f k in
        omega (arith, incr_is g sd x f l cross lx, never_nearer g sd x f l cross x lx)

    held : Chosen s g x b
    held = (entry-holds g x s swap).0

    equal : cost_of s g x e ≡ cost_of s g x b
    equal = as-much ∙ (entry-holds g x s swap).1

    pub none_nearer : new_dist (tree_of g) x (g.link b) x ≤ new_dist (tree_of g) x (g.link e) x
    none_nearer =
        omega (arith, own_incr b held.low held.stands, own_incr e le c, held.nearest nearer e le c equal)

    pub none-lower : new_dist (tree_of g) x (g.link e) x ≡ new_dist (tree_of g) x (g.link b) x → b ≤ e
    none-lower q =
        held.first e le c equal (λ r. omega (arith, own_incr b held.low held.stands, own_incr e le c, q))
