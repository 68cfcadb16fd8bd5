-- The best swap link: it is a candidate, no candidate costs less; under tie rule 1 none of equal cost has a lower incr cost; and of those
-- that are left none has a lower number. There is only one such; nothing is found exactly where no link is a candidate. Assumes nothing.
use Rattle.std.specs.Prelude.{None, Option, Some}
use mathlib.Core.Path.{◌≡◌, refl, sym, subst, ap}
use mathlib.Core.Bool.{Bool, true, false, cond}
use mathlib.Core.List.{List, [], ◌∷◌}
use Prim.Native.Nat.{ℕ, ◌<◌, ◌≤◌}
use native.Mathlib.Omega.{arith}
use lib.Dec.{eqb}
use lib.ListN.{get_or}
use borrow.Author.Tests.{eqb-true, eqb-false}
use Rattle.edition.specs.declared.Measure.{Measure}
use Rattle.edition.specs.declared.Measure.TheVariants.{Incr}
use Rattle.edition.specs.Limits.{nearer_first}
use Rattle.rows.proofs.Tests.{clash}
use Rattle.rows.specs.Work.{best_to}
use Rattle.rows.specs.Lists.{sooner}
use Rattle.rows.proofs.Ordering.{not-sooner, sooner-not, sooner_asym, sooner-through, sooner_equal}
use Rattle.rows.proofs.Best.{IsBest, Best, none, some, Orders, best-is, best_unique, best-first}
use Rattle.network.specs.Network.{Net}
use Rattle.swap.specs.Swap.{candidate, cost_of, key_by, key, before, best}

-- b is the best swap link of x under a measure
pub record Chosen (s : Measure) (g : Net) (x b : ℕ) : Type 0 where
  pub low : b < g.links
  pub stands : candidate g x b ≡ true
  pub least : (e : ℕ) → e < g.links → candidate g x e ≡ true → cost_of s g x b ≤ cost_of s g x e
  pub nearest :
      g.search.rule ≡ nearer_first
      → (e : ℕ) → e < g.links → candidate g x e ≡ true → cost_of s g x e ≡ cost_of s g x b
      → cost_of Incr g x b ≤ cost_of Incr g x e
  pub first :
      (e : ℕ) → e < g.links → candidate g x e ≡ true → cost_of s g x e ≡ cost_of s g x b
      → (g.search.rule ≡ nearer_first → cost_of Incr g x e ≡ cost_of Incr g x b)
      → b ≤ e

-- the order of keys under a rule: by cost, by incr cost where the rule asks for it, by number; a and i are what link e costs, b and j
-- what link f does
module _ (rule a i e b j f : ℕ) where
  -- what it says that e does not come before f
  pub record Behind : Type 0 where
    pub cost : b ≤ a
    pub incr : rule ≡ nearer_first → a ≡ b → j ≤ i
    pub number : a ≡ b → (rule ≡ nearer_first → i ≡ j) → f ≤ e

  last_says : sooner (e ∷ []) (f ∷ []) ≡ false → f ≤ e
  last_says h = (not-sooner e f [] [] h).0

  last_so : f ≤ e → sooner (e ∷ []) (f ∷ []) ≡ false
  unfolding sooner
  last_so l = sooner-not e f [] [] l (λ q. refl)

  says : sooner (key_by rule a i e) (key_by rule b j f) ≡ false → Behind
  unfolding key_by
  says z = go (eqb rule nearer_first) refl
    where
      go : (t : Bool) → eqb rule nearer_first ≡ t → Behind
      go true r =
          let h = not-sooner a b (i ∷ e ∷ []) (j ∷ f ∷ []) (rw r at z) in
          record {
            cost = h.0;
            incr = λ q c. (not-sooner i j (e ∷ []) (f ∷ []) (h.1 c)).0;
            number = λ c q. last_says ((not-sooner i j (e ∷ []) (f ∷ []) (h.1 c)).1 (q (eqb-true rule nearer_first r)));
          }
      go false r =
          let h = not-sooner a b (e ∷ []) (f ∷ []) (rw r at z) in
          record {
            cost = h.0;
            incr = λ q c. absurd (eqb-false rule nearer_first r q);
            number = λ c q. last_says (h.1 c);
          }

  pub behind : Behind → sooner (key_by rule a i e) (key_by rule b j f) ≡ false
  unfolding key_by
  behind h = go (eqb rule nearer_first) refl
    where
      go : (t : Bool) → eqb rule nearer_first ≡ t → sooner (cond t (a ∷ i ∷ e ∷ []) (a ∷ e ∷ [])) (cond t (b ∷ j ∷ f ∷ []) (b ∷ f ∷ [])) ≡ false
      go true r =
          sooner-not a b (i ∷ e ∷ []) (j ∷ f ∷ []) h.cost
          (λ c. sooner-not i j (e ∷ []) (f ∷ []) (h.incr (eqb-true rule nearer_first r) c) (λ q. last_so (h.number c (λ n. q))))
      go false r = sooner-not a b (e ∷ []) (f ∷ []) h.cost (λ c. last_so (h.number c (λ n. absurd (eqb-false rule nearer_first r n))))

  -- two links with one key are one link
  key_number : key_by rule a i e ≡ key_by rule b j f → e ≡ f
  unfolding key_by
  key_number q = go (eqb rule nearer_first) refl
    where
      go : (t : Bool) → eqb rule nearer_first ≡ t → e ≡ f
      go true r = ap (λ (k : List ℕ). get_or k 2 0) (rw r at q)
      go false r = ap (λ (k : List ℕ). get_or k 1 0) (rw r at q)

module _ (s : Measure) (g : Net) (x : ℕ) where
  orders : Orders (before s g x)
  unfolding before
  orders = record { asym = λ e f h. sooner_asym _ _ h; through = λ d e f h k. sooner-through _ _ _ h k }

  -- of two links one comes before the other
  unequal : (e f : ℕ) → before s g x e f ≡ false → before s g x f e ≡ false → e ≡ f
  unfolding before key
  unequal e f h k = key_number g.search.rule _ _ e _ _ f (sooner_equal _ _ h k)

  -- the best is found one link after the other
  pub best_by : best s g x ≡ best_to (candidate g x) (before s g x) g.links
  unfolding best
  best_by = best-first (candidate g x) (before s g x) g.links orders

  found : Best (candidate g x) (before s g x) g.links (best s g x)
  found = subst (Best (candidate g x) (before s g x) g.links) (sym best_by) (best-is (candidate g x) (before s g x) orders g.links)

  is_chosen : {b : ℕ} → IsBest (candidate g x) (before s g x) g.links b → Chosen s g x b
  unfolding before key
  is_chosen {b} i =
      record {
        low = i.low;
        stands = i.ok;
        least = λ e l c. (after e l c).cost;
        nearest = λ r e l c q. (after e l c).incr r q;
        first = λ e l c q n. (after e l c).number q n;
      }
    where
      after :
          (e : ℕ)
          → e < g.links → candidate g x e ≡ true
          → Behind g.search.rule (cost_of s g x e) (cost_of Incr g x e) e (cost_of s g x b) (cost_of Incr g x b) b
      after e l c = says _ _ _ e _ _ b (i.least e l c)

  chosen_first : {b : ℕ} → Chosen s g x b → (e : ℕ) → e < g.links → candidate g x e ≡ true → before s g x e b ≡ false
  unfolding before key
  chosen_first {b} c e l m =
      behind g.search.rule (cost_of s g x e) (cost_of Incr g x e) e (cost_of s g x b) (cost_of Incr g x b) b
      (record { cost = c.least e l m; incr = λ r q. c.nearest r e l m q; number = λ q n. c.first e l m q n })

  is-best : {b : ℕ} → Chosen s g x b → IsBest (candidate g x) (before s g x) g.links b
  is-best {b} c = record { low = c.low; ok = c.stands; least = chosen_first c; first = λ e l m. over e l m (before s g x b e) refl }
    where
      over : (e : ℕ) → e < b → candidate g x e ≡ true → (t : Bool) → before s g x b e ≡ t → before s g x b e ≡ true
      over e l m true h = h
      over e l m false h = absurd (omega (arith, l, unequal e b (chosen_first c e (omega (arith, l, c.low)) m) h))

  -- what is found is the best
  pub chosen : (b : ℕ) → best s g x ≡ Some b → Chosen s g x b
  chosen b q = go (subst (Best (candidate g x) (before s g x) g.links) q found)
    where
      go : {b : ℕ} → Best (candidate g x) (before s g x) g.links (Some b) → Chosen s g x b
      go (some i) = is_chosen i

  -- there is only one best
  pub chosen_only : (b c : ℕ) → Chosen s g x b → Chosen s g x c → b ≡ c
  chosen_only b c i j = best_unique (candidate g x) (before s g x) g.links b c (is-best i) (is-best j)

  -- and it is found
  pub chosen_found : (b : ℕ) → Chosen s g x b → best s g x ≡ Some b
  chosen_found b c = go found
    where
      go : {f : Option ℕ} → Best (candidate g x) (before s g x) g.links f → f ≡ Some b
      go (none h) = clash c.stands (h b c.low)
      go (some i) = ap Some (best_unique (candidate g x) (before s g x) g.links _ b i (is-best c))

  -- nothing is found exactly where no link is a candidate
  pub nothing_stands : best s g x ≡ None → (e : ℕ) → e < g.links → candidate g x e ≡ false
  nothing_stands q = go (subst (Best (candidate g x) (before s g x) g.links) q found)
    where
      go : Best (candidate g x) (before s g x) g.links None → (e : ℕ) → e < g.links → candidate g x e ≡ false
      go (none h) = h

  pub nothing_found : ((e : ℕ) → e < g.links → candidate g x e ≡ false) → best s g x ≡ None
  nothing_found h = go found
    where
      go : {f : Option ℕ} → Best (candidate g x) (before s g x) g.links f → f ≡ None
      go (none n) = refl
      go (some i) = clash i.ok (h _ i.low)

  -- in the word of the definition: no candidate comes before what is found, and a candidate that none comes before is found
  pub none_before : (b : ℕ) → best s g x ≡ Some b → (e : ℕ) → e < g.links → candidate g x e ≡ true → before s g x e b ≡ false
  none_before b q = chosen_first (chosen b q)

  pub before-none :
      (b : ℕ)
      → b < g.links → candidate g x b ≡ true → ((e : ℕ) → e < g.links → candidate g x e ≡ true → before s g x e b ≡ false)
      → best s g x ≡ Some b
  before-none b low stands least =
      chosen_found b (is_chosen (record { low = low; ok = stands; least = least; first = λ e l m. over e l m (before s g x b e) refl }))
    where
      over : (e : ℕ) → e < b → candidate g x e ≡ true → (t : Bool) → before s g x b e ≡ t → before s g x b e ≡ true
      over e l m true h = h
      over e l m false h = absurd (omega (arith, l, unequal e b (least e (omega (arith, l, low)) m) h))
