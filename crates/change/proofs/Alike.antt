-- An entry goes by the tree and by the links that cross the node: networks that agree on these have the same entry there.
-- Assumes nothing.
use Rattle.std.specs.Prelude.{Option}
use mathlib.Core.Path.{◌≡◌, refl, sym, subst, ap, ◌∙◌}
use mathlib.Core.Bool.{true, false, cond, ◌&&◌}
use Prim.Native.Nat.{ℕ}
use lib.Dec.{eqb}
use Rattle.edition.specs.declared.Measure.{Measure}
use Rattle.edition.specs.declared.Measure.TheVariants.{Sum, Incr, Max}
use Rattle.edition.specs.Entries.{root_state, swap_state, none_state, bridge_state, blank}
use Rattle.rows.specs.Count.{some_to}
use Rattle.rows.specs.Lists.{sooner}
use Rattle.rows.specs.Work.{best_to}
use Rattle.rows.proofs.Best.{best_cong, Stands, nobody, somebody, stands}
use Rattle.rows.proofs.Counting.{some_cong}
use Rattle.rows.proofs.Tests.{clash}
use Rattle.network.specs.Network.{Net}
use Rattle.tree.specs.Tree.{tree_of}
use Rattle.swap.specs.Swap.{inner_end, lower_mark, crosses, within, candidate, cost, cost_of, key_by, key, before, best}
use Rattle.swap.specs.Entry.{crossed, has_candidate, state, priced, swap_of, entry}
use Rattle.swap.proofs.Choosing.{best_by}

-- link k is the same in both, or crosses x in neither
pub data Alike (x : ℕ) (g h : Net) (k : ℕ) : Type 0 where
  same : h.link k ≡ g.link k → Alike x g h k
  neither : crosses (tree_of h) x k (h.link k) ≡ false → crosses (tree_of g) x k (g.link k) ≡ false → Alike x g h k

pub record SameFor (x : ℕ) (g h : Net) : Type 0 where
  pub tree : tree_of h ≡ tree_of g
  pub count : h.links ≡ g.links
  pub search : h.search ≡ g.search
  pub link : (k : ℕ) → Alike x g h k

module _ (x : ℕ) (g h : Net) (a : SameFor x g h) where
  crosses-same : (k : ℕ) → crosses (tree_of h) x k (h.link k) ≡ crosses (tree_of g) x k (g.link k)
  crosses-same k =
      elim (a.link k) [
        | same e ↦ λ i. crosses (a.tree i) x k (e i)
        | neither p q ↦ p ∙ sym q
      ]

  candidate-same : (k : ℕ) → candidate h x k ≡ candidate g x k
  unfolding candidate
  candidate-same k =
      elim (a.link k) [
        | same e ↦ λ i. crosses (a.tree i) x k (e i) && within (a.tree i) (a.search i).depth x (inner_end (a.tree i) x (e i))
        | neither p q ↦ rw (p, q)
      ]

  cost-same : (s : Measure) (k : ℕ) → candidate h x k ≡ true → cost_of s h x k ≡ cost_of s g x k
  unfolding candidate cost_of
  cost-same s k c =
      elim (a.link k) [
        | same e ↦ λ i. cost s (a.tree i) x (e i)
        | neither p q ↦ clash c (rw p)
      ]

  mark_same : (k : ℕ) → candidate h x k ≡ true → lower_mark (tree_of h) x (h.link k) ≡ lower_mark (tree_of g) x (g.link k)
  unfolding candidate
  mark_same k c =
      elim (a.link k) [
        | same e ↦ λ i. lower_mark (a.tree i) x (e i)
        | neither p q ↦ clash c (rw p)
      ]

  before_same : (s : Measure) (e f : ℕ) → candidate h x e ≡ true → candidate h x f ≡ true → before s h x e f ≡ before s g x e f
  unfolding before key
  before_same s e f c d =
      λ i.
      sooner (key_by (a.search i).rule (cost-same s e c i) (cost-same Incr e c i) e)
      (key_by (a.search i).rule (cost-same s f d i) (cost-same Incr f d i) f)

  best-same : (s : Measure) → best s h x ≡ best s g x
  best-same s =
      best_by s h x
      ∙ (best_cong (candidate h x) (candidate g x) (before s h x) (before s g x) h.links (λ j l. candidate-same j) (λ e f l m c d. before_same s e f c d)
      ∙ (ap (best_to (candidate g x) (before s g x)) a.count ∙ sym (best_by s g x)))

  swap_same : (s : Measure) → swap_of s h x ≡ swap_of s g x
  unfolding swap_of priced
  swap_same s =
      go (subst (Stands (candidate h x) (before s h x) h.links) (sym (best_by s h x)) (stands (candidate h x) (before s h x) h.links))
      ∙ ap (priced s g x) (best-same s)
    where
      go : {f : Option ℕ} → Stands (candidate h x) (before s h x) h.links f → priced s h x f ≡ priced s g x f
      go nobody = refl
      go (somebody {b} l m) = λ i. record { link = b; cost = cost-same s b m i; lower = mark_same b m i }

  state-same : state h x ≡ state g x
  unfolding state crossed has_candidate
  state-same =
      let near : some_to (candidate h x) h.links ≡ some_to (candidate g x) g.links =
      some_cong _ _ h.links (λ k l. candidate-same k) ∙ ap (some_to (candidate g x)) a.count in
      let any : some_to (λ e. crosses (tree_of h) x e (h.link e)) h.links ≡ some_to (λ e. crosses (tree_of g) x e (g.link e)) g.links =
      some_cong _ _ h.links (λ k l. crosses-same k) ∙ ap (some_to (λ e. crosses (tree_of g) x e (g.link e))) a.count in
      λ i. cond (eqb x (a.search i).root) root_state (cond (near i) swap_state (cond (any i) none_state bridge_state))

  pub entry-same : entry h x ≡ entry g x
  unfolding entry
  entry-same =
      λ i.
      cond (eqb (state-same i) swap_state)
      (record { state = swap_state; sum = swap_same Sum i; incr = swap_same Incr i; max = swap_same Max i })
      (blank (state-same i))
