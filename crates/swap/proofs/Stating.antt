-- States: 3 exactly where nothing crosses, 2 exactly where something crosses and nothing is within the depth, 1 exactly where a
-- link is a candidate; only state 1 has links, costs and marks, and then under every measure. Assumes nothing.
use Rattle.std.specs.Prelude.{None, Option, Some}
use mathlib.Core.Path.{◌≡◌, refl, sym, subst, ◌∙◌}
use mathlib.Core.Bool.{Bool, true, false, cond}
use Prim.Native.Nat.{ℕ, ◌<◌}
use native.Mathlib.Omega.{arith}
use lib.Dec.{eqb}
use borrow.Author.Tests.{eqb-true, eq-eqb, ne_eqb}
use Rattle.edition.specs.declared.Measure.{Measure}
use Rattle.edition.specs.declared.Measure.TheVariants.{Sum, Incr, Max}
use Rattle.edition.specs.declared.Swap.{Swap}
use Rattle.edition.specs.declared.Entry.{Entry}
use Rattle.edition.specs.Limits.{no_link}
use Rattle.edition.specs.Entries.{root_state, swap_state, none_state, bridge_state, no_swap, blank, swap_by}
use Rattle.rows.proofs.Tests.{clash, and_left}
use Rattle.rows.proofs.Best.{some_none, some_one, one_some}
use Rattle.network.specs.Network.{Net}
use Rattle.tree.specs.Tree.{tree_of}
use Rattle.swap.specs.Swap.{lower_mark, crosses, candidate, cost_of, best}
use Rattle.swap.specs.Entry.{crossed, has_candidate, state, priced, swap_of, entry}
use Rattle.swap.proofs.Choosing.{Chosen, chosen, nothing_stands, nothing_found}

-- link e crosses x in the network
abbrev pub Crossing : Net → ℕ → ℕ → Type 0
Crossing g x e = (e < g.links) × (crosses (tree_of g) x e (g.link e) ≡ true)

-- link e is a candidate of x in the network
abbrev pub Candidate : Net → ℕ → ℕ → Type 0
Candidate g x e = (e < g.links) × (candidate g x e ≡ true)

-- a candidate crosses
pub candidate-crosses : (g : Net) (x e : ℕ) → candidate g x e ≡ true → crosses (tree_of g) x e (g.link e) ≡ true
unfolding candidate
candidate-crosses g x e h = and_left (crosses (tree_of g) x e (g.link e)) _ h

module _ (g : Net) (x : ℕ) where
  crossed-one : crossed g x ≡ true → (e : ℕ) × Crossing g x e
  unfolding crossed
  crossed-one h = let z = some_one (λ e. crosses (tree_of g) x e (g.link e)) g.links h in (z.0, (z.1, z.2))

  crossed-none : crossed g x ≡ false → (e : ℕ) → Crossing g x e → ⊥
  unfolding crossed
  crossed-none h e c = clash c.1 (some_none (λ e. crosses (tree_of g) x e (g.link e)) g.links h e c.0)

  candidate-one : has_candidate g x ≡ true → (e : ℕ) × Candidate g x e
  unfolding has_candidate
  candidate-one h = let z = some_one (candidate g x) g.links h in (z.0, (z.1, z.2))

  candidate-none : has_candidate g x ≡ false → (e : ℕ) → e < g.links → candidate g x e ≡ false
  unfolding has_candidate
  candidate-none h = some_none (candidate g x) g.links h

  -- what has a candidate is crossed
  candidate-crossed : has_candidate g x ≡ true → crossed g x ≡ true
  unfolding crossed
  candidate-crossed h =
      let z = candidate-one h in
      one_some (λ e. crosses (tree_of g) x e (g.link e)) g.links z.0 z.1.0 (candidate-crosses g x z.0 z.1.1)

  -- the state of a node that is not the root, by what crosses and what is within the depth
  pub data Stated : ℕ → Type 0 where
    swap : has_candidate g x ≡ true → Stated swap_state
    far : has_candidate g x ≡ false → crossed g x ≡ true → Stated none_state
    bridge : crossed g x ≡ false → Stated bridge_state

  -- the state of a node that is not the root
  unfoldable pub state_below : ℕ
  state_below = cond (has_candidate g x) swap_state (cond (crossed g x) none_state bridge_state)

  state-below : eqb x g.search.root ≡ false → state g x ≡ state_below
  unfolding state state_below
  state-below r = rw r

  stated_below : (s c : Bool) → has_candidate g x ≡ s → crossed g x ≡ c → Stated state_below
  unfolding state_below
  stated_below true c p q = rw p (swap p)
  stated_below false true p q = rw (p, q) (far p q)
  stated_below false false p q = rw (p, q) (bridge q)

  pub stated : eqb x g.search.root ≡ false → Stated (state g x)
  stated r = subst Stated (sym (state-below r)) (stated_below (has_candidate g x) (crossed g x) refl refl)

  -- state 3 exactly where nothing crosses
  pub bridge_uncrossed : eqb x g.search.root ≡ false → state g x ≡ bridge_state → (e : ℕ) → Crossing g x e → ⊥
  bridge_uncrossed r q = go (stated r) q
    where
      go : {n : ℕ} → Stated n → n ≡ bridge_state → (e : ℕ) → Crossing g x e → ⊥
      go (swap p) z = absurd (omega arith)
      go (far p c) z = absurd (omega arith)
      go (bridge c) z = crossed-none c

  pub uncrossed_bridge : eqb x g.search.root ≡ false → ((e : ℕ) → Crossing g x e → ⊥) → state g x ≡ bridge_state
  uncrossed_bridge r h = go (stated r)
    where
      any : crossed g x ≡ true → ⊥
      any c = let z = crossed-one c in h z.0 z.1

      go : {n : ℕ} → Stated n → n ≡ bridge_state
      go (swap p) = absurd (any (candidate-crossed p))
      go (far p c) = absurd (any c)
      go (bridge c) = refl

  -- state 2 exactly where something crosses and nothing is within the depth
  pub none-crossed : eqb x g.search.root ≡ false → state g x ≡ none_state → ((e : ℕ) × Crossing g x e) × ((e : ℕ) → e < g.links → candidate g x e ≡ false)
  none-crossed r q = go (stated r) q
    where
      go : {n : ℕ} → Stated n → n ≡ none_state → ((e : ℕ) × Crossing g x e) × ((e : ℕ) → e < g.links → candidate g x e ≡ false)
      go (swap p) z = absurd (omega arith)
      go (far p c) z = (crossed-one c, candidate-none p)
      go (bridge c) z = absurd (omega arith)

  pub crossed-none-within :
      eqb x g.search.root ≡ false
      → (e : ℕ) → Crossing g x e → ((e : ℕ) → e < g.links → candidate g x e ≡ false) → state g x ≡ none_state
  crossed-none-within r e c h = go (stated r)
    where
      go : {n : ℕ} → Stated n → n ≡ none_state
      go (swap p) = let z = candidate-one p in clash z.1.1 (h z.0 z.1.0)
      go (far p k) = refl
      go (bridge k) = absurd (crossed-none k e c)

  -- state 1 exactly where a link is a candidate
  pub swap_candidate : eqb x g.search.root ≡ false → state g x ≡ swap_state → (e : ℕ) × Candidate g x e
  swap_candidate r q = go (stated r) q
    where
      go : {n : ℕ} → Stated n → n ≡ swap_state → (e : ℕ) × Candidate g x e
      go (swap p) z = candidate-one p
      go (far p c) z = absurd (omega arith)
      go (bridge c) z = absurd (omega arith)

  pub candidate_swap : eqb x g.search.root ≡ false → (e : ℕ) → Candidate g x e → state g x ≡ swap_state
  candidate_swap r e c = go (stated r)
    where
      go : {n : ℕ} → Stated n → n ≡ swap_state
      go (swap p) = refl
      go (far p k) = clash c.1 (candidate-none p e c.0)
      go (bridge k) = absurd (crossed-none k e (c.0, candidate-crosses g x e c.1))

  -- the entry holds the state
  pub entry-state : (entry g x).state ≡ state g x
  unfolding entry
  entry-state = go (eqb (state g x) swap_state) refl
    where
      go : (b : Bool) → eqb (state g x) swap_state ≡ b → (entry g x).state ≡ state g x
      go true e = rw e (sym (eqb-true (state g x) swap_state e))
      go false e = rw e

  -- only state 1 has links, costs and marks: in every other state the three links are 65,535, the three costs 0 and the three marks 0
  pub entry-blank : (state g x ≡ swap_state → ⊥) → entry g x ≡ blank (state g x)
  unfolding entry
  entry-blank n = rw (ne_eqb (state g x) swap_state n)

  -- the root's entry is the root entry
  pub entry-root : eqb x g.search.root ≡ true → entry g x ≡ blank root_state
  unfolding entry state
  entry-root e = rw e

  uncandidate : (s : Measure) → has_candidate g x ≡ false → swap_of s g x ≡ no_swap
  unfolding swap_of priced
  uncandidate s h = rw (nothing_found s g x (candidate-none h))

  -- the entry of a node that is not the root, whatever its state
  pub entry-own :
      eqb x g.search.root ≡ false
      → entry g x ≡ record { state = state_below; sum = swap_of Sum g x; incr = swap_of Incr g x; max = swap_of Max g x }
  unfolding entry state_below
  entry-own r = go (has_candidate g x) refl (crossed g x) refl
    where
      go :
          (a : Bool) → has_candidate g x ≡ a → (b : Bool) → crossed g x ≡ b
          → entry g x ≡ record { state = state_below; sum = swap_of Sum g x; incr = swap_of Incr g x; max = swap_of Max g x }
      go true h b k = rw (state-below r, h)
      go false h true k = rw (state-below r, h, k, uncandidate Sum h, uncandidate Incr h, uncandidate Max h)
      go false h false k = rw (state-below r, h, k, uncandidate Sum h, uncandidate Incr h, uncandidate Max h)

  -- state 0 stands at the root alone
  pub root-alone : state g x ≡ root_state → eqb x g.search.root ≡ true
  root-alone q = go (eqb x g.search.root) refl
    where
      below : {n : ℕ} → Stated n → n ≡ root_state → eqb x g.search.root ≡ true
      below (swap p) z = absurd (omega arith)
      below (far p c) z = absurd (omega arith)
      below (bridge c) z = absurd (omega arith)

      go : (b : Bool) → eqb x g.search.root ≡ b → eqb x g.search.root ≡ true
      go true e = e
      go false e = below (stated e) q

  -- an entry in state 1 is of a node that is not the root
  swap_below : state g x ≡ swap_state → eqb x g.search.root ≡ false
  unfolding state
  swap_below q = go (eqb x g.search.root) refl
    where
      go : (b : Bool) → eqb x g.search.root ≡ b → b ≡ false
      go true e = absurd (omega (arith, rw e at q))
      go false e = refl

  own_swap : (s : Measure) → state g x ≡ swap_state → swap_by (entry g x) s ≡ swap_of s g x
  unfolding entry
  own_swap Sum q = rw (eq-eqb (state g x) swap_state q)
  own_swap Incr q = rw (eq-eqb (state g x) swap_state q)
  own_swap Max q = rw (eq-eqb (state g x) swap_state q)

  -- a link that stands in an entry under a measure: the best candidate, its cost, and the mark of its lower end
  abbrev Holds : Measure → Swap → Type 0
  Holds s k = Chosen s g x k.link × (k.cost ≡ cost_of s g x k.link) × (k.lower ≡ lower_mark (tree_of g) x (g.link k.link))

  swap_holds : (s : Measure) → state g x ≡ swap_state → Holds s (swap_of s g x)
  unfolding swap_of priced
  swap_holds s q = go (best s g x) refl
    where
      go : (f : Option ℕ) → best s g x ≡ f → Holds s (priced s g x f)
      go None e =
          let z = swap_candidate (swap_below q) q in
          clash z.1.1 (nothing_stands s g x e z.0 z.1.0)
      go (Some b) e = (chosen s g x b e, refl, refl)

  -- what an entry holds in state 1: under each measure its link is the best candidate, its cost what that link costs, and its mark
  -- that of the link's lower end
  pub entry-holds :
      (s : Measure)
      → (entry g x).state ≡ swap_state
      → Chosen s g x (swap_by (entry g x) s).link
      × ((swap_by (entry g x) s).cost ≡ cost_of s g x (swap_by (entry g x) s).link)
      × ((swap_by (entry g x) s).lower ≡ lower_mark (tree_of g) x (g.link (swap_by (entry g x) s).link))
  entry-holds s q =
      let is = sym entry-state ∙ q in
      subst (λ (k : Swap). Holds s k) (sym (own_swap s is)) (swap_holds s is)

  -- and in every other state: its link is 65,535, its cost 0 and its mark 0
  pub entry_empty :
      (s : Measure)
      → ((entry g x).state ≡ swap_state → ⊥)
      → ((swap_by (entry g x) s).link ≡ no_link) × ((swap_by (entry g x) s).cost ≡ 0) × ((swap_by (entry g x) s).lower ≡ 0)
  entry_empty s n =
      let is = entry-blank (λ q. n (entry-state ∙ q)) in
      subst (λ (e : Entry). ((swap_by e s).link ≡ no_link) × ((swap_by e s).cost ≡ 0) × ((swap_by e s).lower ≡ 0)) (sym is) (go s)
    where
      go :
          (s : Measure)
          → ((swap_by (blank (state g x)) s).link ≡ no_link)
          × ((swap_by (blank (state g x)) s).cost ≡ 0) × ((swap_by (blank (state g x)) s).lower ≡ 0)
      go Sum = (refl, refl, refl)
      go Incr = (refl, refl, refl)
      go Max = (refl, refl, refl)
