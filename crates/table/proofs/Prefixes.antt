-- What one more link does to an entry: nothing where it does not cross, else what `offered` says. Assumes nothing.
use Rattle.std.specs.Prelude.{None, Option, Some}
use Rattle.std.proofs.Common.{◌≡◌, ℕ, suc, ◌<◌, Bool, true, false, cond, ◌&&◌, ◌||◌, eqb, ltb, [], ◌∷◌, sym, refl, ap, ◌∙◌, subst, arith, le-ltb, eq-eqb}
use Rattle.std.proofs.Common.{ne_eqb, eqb-true}
use borrow.Author.Tests.{eqb-false}
use Rattle.edition.specs.declared.Measure.{Measure}
use Rattle.edition.specs.declared.Measure.TheVariants.{Sum, Incr, Max}
use Rattle.edition.specs.Limits.{nearer_first}
use Rattle.edition.specs.declared.Entry.{Entry}
use Rattle.edition.specs.Entries.{root_state, swap_state, none_state, bridge_state, blank}
use Rattle.rows.specs.Count.{some_to}
use Rattle.rows.specs.Lists.{sooner}
use Rattle.rows.specs.Work.{beats, best_to}
use Rattle.rows.proofs.Tests.{clash, or_right, or_none, and_none}
use Rattle.rows.proofs.Best.{is_at, some_found, Stands, nobody, somebody, stands}
use Rattle.network.specs.Network.{Net}
use Rattle.tree.specs.Tree.{tree_of}
use Rattle.table.specs.declared.Offer.{Offer}
use Rattle.table.specs.declared.Costs.{Costs}
use Rattle.table.specs.declared.Standing.{Standing}
use Rattle.swap.specs.Swap.{inner_end, lower_mark, crosses, within, candidate, cost_of, key_by, key, before, best}
use Rattle.swap.specs.Entry.{crossed, has_candidate, priced, swap_of, entry}
use Rattle.swap.proofs.Choosing.{best_by}
use Rattle.swap.proofs.Stating.{state_below, entry-root, entry-own}
use Rattle.table.specs.Prefix.{first_links, as_swap, kept, tied_by, standing_by, offered}

module _ (g : Net) (x : ℕ) where
  -- the best of the first k links
  best_of : Measure → ℕ → Option ℕ
  best_of s k = best_to (candidate g x) (before s g x) k

  best_of_lem : (s : Measure) (k : ℕ) → best s (first_links g k) x ≡ best_of s k
  unfolding best_of first_links candidate before key cost_of tree_of
  best_of_lem s k = best_by s (first_links g k) x

  swap_of_lem : (s : Measure) (k : ℕ) → swap_of s (first_links g k) x ≡ priced s g x (best_of s k)
  unfolding swap_of priced cost_of first_links tree_of
  swap_of_lem s k = ap (priced s (first_links g k) x) (best_of_lem s k) ∙ same (best_of s k)
    where
      same : (f : Option ℕ) → priced s (first_links g k) x f ≡ priced s g x f
      same None = refl
      same (Some e) = refl

  saved_of : ℕ → Bool
  saved_of k = some_to (candidate g x) k

  saved_of_lem : (k : ℕ) → has_candidate (first_links g k) x ≡ saved_of k
  unfolding has_candidate saved_of first_links candidate tree_of
  saved_of_lem k = refl

  crossed_of : ℕ → Bool
  crossed_of k = some_to (λ e. crosses (tree_of g) x e (g.link e)) k

  crossed_of_lem : (k : ℕ) → crossed (first_links g k) x ≡ crossed_of k
  unfolding crossed crossed_of first_links tree_of
  crossed_of_lem k = refl

  -- the state of the first k links
  state_of : ℕ → ℕ
  state_of k = cond (saved_of k) swap_state (cond (crossed_of k) none_state bridge_state)

  state_of_lem : (k : ℕ) → state_below (first_links g k) x ≡ state_of k
  unfolding state_below state_of
  state_of_lem k = rw (saved_of_lem k, crossed_of_lem k)

  -- the entry of the first k links
  entry_of : ℕ → Entry
  entry_of k =
      record {
        state =
            state_of k;
        sum =
            priced Sum g x (best_of Sum k);
        incr =
            priced Incr g x (best_of Incr k);
        max = priced Max g x (best_of Max k);
      }

  entry_of_lem : (k : ℕ) → eqb x g.search.root ≡ false → entry (first_links g k) x ≡ entry_of k
  unfolding entry_of first_links
  entry_of_lem k r = rw (entry-own (first_links g k) x r, state_of_lem k, swap_of_lem Sum k, swap_of_lem Incr k, swap_of_lem Max k)

  -- a swap link stands exactly in state 1
  had_one : (k : ℕ) → eqb (state_of k) swap_state ≡ saved_of k
  unfolding state_of
  had_one k = go (saved_of k) (crossed_of k)
    where
      go : (a b : Bool) → eqb (cond a swap_state (cond b none_state bridge_state)) swap_state ≡ a
      go true b = refl
      go false true = refl
      go false false = refl

  module _ (l : ℕ) where
    -- a link that is no candidate
    best-same : (s : Measure) → candidate g x l ≡ false → best_of s (suc l) ≡ best_of s l
    unfolding best_of best_to
    best-same s c = rw c

    saved_same : candidate g x l ≡ false → saved_of (suc l) ≡ saved_of l
    unfolding saved_of some_to
    saved_same c = rw c (or_none (some_to (candidate g x) l))

    crossed-more : crosses (tree_of g) x l (g.link l) ≡ true → crossed_of (suc l) ≡ true
    unfolding crossed_of some_to
    crossed-more c = or_right (some_to (λ e. crosses (tree_of g) x e (g.link e)) l) _ c

    crossed-same : crosses (tree_of g) x l (g.link l) ≡ false → crossed_of (suc l) ≡ crossed_of l
    unfolding crossed_of some_to
    crossed-same c = rw c (or_none (some_to (λ e. crosses (tree_of g) x e (g.link e)) l))

    not-candidate : crosses (tree_of g) x l (g.link l) ≡ false → candidate g x l ≡ false
    unfolding candidate
    not-candidate c = rw c

    -- a link that does not cross changes nothing
    unmoved : crosses (tree_of g) x l (g.link l) ≡ false → entry_of (suc l) ≡ entry_of l
    unfolding entry_of state_of
    unmoved c =
        let n = not-candidate c in
        rw (best-same Sum n, best-same Incr n, best-same Max n, saved_same n, crossed-same c)

    deeper_state : crosses (tree_of g) x l (g.link l) ≡ true → candidate g x l ≡ false → state_of (suc l) ≡ cond (saved_of l) swap_state none_state
    unfolding state_of
    deeper_state c n = rw (saved_same n, crossed-more c)

    nearer_state : candidate g x l ≡ true → state_of (suc l) ≡ swap_state
    unfolding state_of saved_of some_to
    nearer_state c = rw (c, or_right (some_to (candidate g x) l) true refl)

    -- a link that crosses too deep
    deeper :
        crosses (tree_of g) x l (g.link l) ≡ true
        → candidate g x l ≡ false → (standing : Standing) (c : Costs) (lower : ℕ)
        → entry_of (suc l) ≡ offered (entry_of l) standing false l lower c
    unfolding offered entry_of
    deeper c n standing k lower = rw (best-same Sum n, best-same Incr n, best-same Max n, had_one l, deeper_state c n)

    -- a candidate o, which is link l: where the test by i says whether it comes before what stands, what is kept is the best
    module _ (s : Measure) (c : candidate g x l ≡ true) (o : Offer) (p : o.link ≡ l) (q : o.cost ≡ cost_of s g x l)
        (m : o.lower ≡ lower_mark (tree_of g) x (g.link l)) (i : ℕ) where
      Told : Option ℕ → Type 0
      Told f = (b : ℕ) → f ≡ Some b → (ltb o.cost (cost_of s g x b) || ltb o.incr i) ≡ before s g x l b

      is-new : priced s g x (Some l) ≡ as_swap o
      unfolding priced
      is-new = λ j. record { link = sym p j; cost = sym q j; lower = sym m j }

      two :
          (b : ℕ) → Told (Some b) → (t : Bool) → before s g x l b ≡ t
          → priced s g x (cond (before s g x l b) (Some l) (Some b)) ≡ kept true i (priced s g x (Some b)) o
      unfolding kept priced Told
      two b told true e = rw (e, told b refl ∙ e) is-new
      two b told false e = rw (e, told b refl ∙ e)

      one : (f : Option ℕ) → Told f → priced s g x (cond (beats (before s g x) l f) (Some l) f) ≡ kept (is_at f) i (priced s g x f) o
      unfolding beats kept
      one None told = is-new
      one (Some b) told = two b told (before s g x l b) refl

      swap_kept : Told (best_of s l) → priced s g x (best_of s (suc l)) ≡ kept (saved_of l) i (priced s g x (best_of s l)) o
      unfolding best_of best_to saved_of
      swap_kept told = rw (c, some_found (candidate g x) (before s g x) l) (one (best_to (candidate g x) (before s g x) l) told)

    -- a later link of equal cost comes before only where the rule asks and it costs less by incr; of two costs the lower decides
    module _ (s : Measure) (b : ℕ) (late : b < l) where
      last_not : sooner (l ∷ []) (b ∷ []) ≡ false
      unfolding sooner
      last_not = rw (le-ltb l b (omega (arith, late)), and_none (eqb l b))

      by_cost : (cost_of s g x l ≡ cost_of s g x b → ⊥) → before s g x l b ≡ ltb (cost_of s g x l) (cost_of s g x b)
      unfolding before key key_by sooner
      by_cost n = go (eqb g.search.rule nearer_first) refl
        where
          go : (t : Bool) → eqb g.search.rule nearer_first ≡ t → before s g x l b ≡ ltb (cost_of s g x l) (cost_of s g x b)
          go true e = rw (e, ne_eqb (cost_of s g x l) (cost_of s g x b) n, or_none (ltb (cost_of s g x l) (cost_of s g x b)))
          go false e = rw (e, ne_eqb (cost_of s g x l) (cost_of s g x b) n, or_none (ltb (cost_of s g x l) (cost_of s g x b)))

      module _ (equal : cost_of s g x l ≡ cost_of s g x b) where
        by_number : (g.search.rule ≡ nearer_first → ⊥) → before s g x l b ≡ false
        unfolding before key key_by sooner
        by_number n =
            rw (
              ne_eqb g.search.rule nearer_first n,
              le-ltb (cost_of s g x l) (cost_of s g x b) (omega (arith, equal)),
              eq-eqb (cost_of s g x l) (cost_of s g x b) equal,
            ) last_not

        by_incr : g.search.rule ≡ nearer_first → before s g x l b ≡ ltb (cost_of Incr g x l) (cost_of Incr g x b)
        unfolding before key key_by sooner
        by_incr n =
            rw (
              eq-eqb g.search.rule nearer_first n,
              le-ltb (cost_of s g x l) (cost_of s g x b) (omega (arith, equal)),
              eq-eqb (cost_of s g x l) (cost_of s g x b) equal,
              le-ltb l b (omega (arith, late)),
              and_none (eqb l b),
              and_none (eqb (cost_of Incr g x l) (cost_of Incr g x b)),
              or_none (ltb (cost_of Incr g x l) (cost_of Incr g x b)),
            )

    -- what is found is a candidate
    found_stands : (s : Measure) (b : ℕ) → best_of s l ≡ Some b → (b < l) × (candidate g x b ≡ true)
    unfolding best_of
    found_stands s b e = go (subst (Stands (candidate g x) (before s g x) l) e (stands (candidate g x) (before s g x) l))
      where
        go : {b : ℕ} → Stands (candidate g x) (before s g x) l (Some b) → (b < l) × (candidate g x b ≡ true)
        go (somebody k m) = (k, m)

    module _ (f : ℕ → ℕ) (known : (b : ℕ) → b < l → candidate g x b ≡ true → f b ≡ cost_of Incr g x b) where
      tied_told :
          (s : Measure) (o : Offer) → o.cost ≡ cost_of s g x l → o.incr ≡ cost_of Incr g x l → (b : ℕ) → best_of s l ≡ Some b
          → (ltb o.cost (cost_of s g x b) || ltb o.incr (tied_by g.search.rule f (priced s g x (best_of s l)) o.cost)) ≡ before s g x l b
      unfolding tied_by priced
      tied_told s o p q b e = rw e (go (eqb o.cost (cost_of s g x b)) refl (eqb g.search.rule nearer_first) refl)
        where
          z : (b < l) × (candidate g x b ≡ true)
          z = found_stands s b e

          Goal : Type 0
          Goal =
              (ltb o.cost (cost_of s g x b) ||
              ltb o.incr (cond (eqb g.search.rule nearer_first && eqb o.cost (cost_of s g x b)) (f b) 0))
              ≡ before s g x l b

          go : (v : Bool) → eqb o.cost (cost_of s g x b) ≡ v → (t : Bool) → eqb g.search.rule nearer_first ≡ t → Goal
          go true h true r =
              let same = sym p ∙ eqb-true o.cost (cost_of s g x b) h in
              rw (h, r, le-ltb o.cost (cost_of s g x b) (omega (arith, p, same)), known b z.0 z.1, q)
              (sym (by_incr s b z.0 same (eqb-true g.search.rule nearer_first r)))
          go true h false r =
              let same = sym p ∙ eqb-true o.cost (cost_of s g x b) h in
              rw (h, r, le-ltb o.cost (cost_of s g x b) (omega (arith, p, same)), le-ltb o.incr 0 (omega arith))
              (sym (by_number s b z.0 same (eqb-false g.search.rule nearer_first r)))
          go false h t r =
              rw (h, and_none (eqb g.search.rule nearer_first), le-ltb o.incr 0 (omega arith), or_none (ltb o.cost (cost_of s g x b)), p)
              (sym (by_cost s b z.0 (λ k. eqb-false o.cost (cost_of s g x b) h (p ∙ k))))

      incr_told :
          (o : Offer) → o.cost ≡ cost_of Incr g x l → (b : ℕ) → best_of Incr l ≡ Some b
          → (ltb o.cost (cost_of Incr g x b) || ltb o.incr 0) ≡ before Incr g x l b
      incr_told o p b e =
          rw (le-ltb o.incr 0 (omega arith), or_none (ltb o.cost (cost_of Incr g x b)), p)
          (go (eqb (cost_of Incr g x l) (cost_of Incr g x b)) refl (eqb g.search.rule nearer_first) refl)
        where
          z : (b < l) × (candidate g x b ≡ true)
          z = found_stands Incr b e

          go :
              (v : Bool) → eqb (cost_of Incr g x l) (cost_of Incr g x b) ≡ v → (t : Bool) → eqb g.search.rule nearer_first ≡ t
              → ltb (cost_of Incr g x l) (cost_of Incr g x b) ≡ before Incr g x l b
          go true h true r =
              sym (by_incr Incr b z.0 (eqb-true (cost_of Incr g x l) (cost_of Incr g x b) h) (eqb-true g.search.rule nearer_first r))
          go true h false r =
              let same = eqb-true (cost_of Incr g x l) (cost_of Incr g x b) h in
              le-ltb (cost_of Incr g x l) (cost_of Incr g x b) (omega (arith, same))
              ∙ sym (by_number Incr b z.0 same (eqb-false g.search.rule nearer_first r))
          go false h t r = sym (by_cost Incr b z.0 (eqb-false (cost_of Incr g x l) (cost_of Incr g x b) h))

      nearer :
          candidate g x l ≡ true
          → (c : Costs) → c.sum ≡ cost_of Sum g x l → c.incr ≡ cost_of Incr g x l → c.max ≡ cost_of Max g x l
          → (lower : ℕ) → lower ≡ lower_mark (tree_of g) x (g.link l)
          → entry_of (suc l) ≡ offered (entry_of l) (standing_by g.search.rule f (entry_of l) c) true l lower c
      unfolding offered standing_by entry_of Told
      nearer n c p q r lower m =
          let sum_offer : Offer = record { link = l; cost = c.sum; incr = c.incr; lower = lower } in
          let incr_offer : Offer = record { link = l; cost = c.incr; incr = c.incr; lower = lower } in
          let max_offer : Offer = record { link = l; cost = c.max; incr = c.incr; lower = lower } in
          rw (
            had_one l,
            nearer_state n,
            swap_kept Sum n sum_offer refl p m _ (tied_told Sum sum_offer p q),
            swap_kept Incr n incr_offer refl q m _ (incr_told incr_offer q),
            swap_kept Max n max_offer refl r m _ (tied_told Max max_offer r q),
          )

  -- the entry of one more link, of a node that is not the root
  module _ (r : eqb x g.search.root ≡ false) (l : ℕ) where
    entry_unmoved : crosses (tree_of g) x l (g.link l) ≡ false → entry (first_links g (suc l)) x ≡ entry (first_links g l) x
    entry_unmoved c = entry_of_lem (suc l) r ∙ unmoved l c ∙ sym (entry_of_lem l r)

    pub entry-offered :
        (f : ℕ → ℕ) → ((b : ℕ) → b < l → candidate g x b ≡ true → f b ≡ cost_of Incr g x b)
        → crosses (tree_of g) x l (g.link l) ≡ true
        → (near : Bool) → near ≡ within (tree_of g) g.search.depth x (inner_end (tree_of g) x (g.link l)) → (c : Costs)
        → c.sum ≡ cost_of Sum g x l → c.incr ≡ cost_of Incr g x l → c.max ≡ cost_of Max g x l
        → (lower : ℕ) → lower ≡ lower_mark (tree_of g) x (g.link l)
        → entry (first_links g (suc l)) x
        ≡ offered (entry (first_links g l) x) (standing_by g.search.rule f (entry (first_links g l) x) c) near l lower c
    unfolding candidate
    entry-offered f known c true q k p i m lower z = rw (entry_of_lem (suc l) r, entry_of_lem l r) (nearer l f known (rw (c, ← q)) k p i m lower z)
    entry-offered f known c false q k p i m lower z = rw (entry_of_lem (suc l) r, entry_of_lem l r) (deeper l c (rw (c, ← q)) _ k lower)

  -- what the swap link under incr costs by incr is its cost
  incr_cost : (f : ℕ → ℕ) (k : ℕ) → ((b : ℕ) → b < k → candidate g x b ≡ true → f b ≡ cost_of Incr g x b)
      → {h : Option ℕ} → Stands (candidate g x) (before Incr g x) k h → is_at h ≡ true → f (priced Incr g x h).link ≡ (priced Incr g x h).cost
  unfolding priced
  incr_cost f k known nobody e = clash e refl
  incr_cost f k known (somebody {b} l m) e = known b l m

  pub least_known :
      (f : ℕ → ℕ) (k : ℕ) → ((b : ℕ) → b < k → candidate g x b ≡ true → f b ≡ cost_of Incr g x b)
      → eqb x g.search.root ≡ false → eqb (entry (first_links g k) x).state swap_state ≡ true
      → f (entry (first_links g k) x).incr.link ≡ (entry (first_links g k) x).incr.cost
  unfolding entry_of best_of saved_of
  least_known f k known r e =
      let saved : saved_of k ≡ true = sym (had_one k) ∙ (rw (entry_of_lem k r) at e) in
      rw (entry_of_lem k r)
      (incr_cost f k known (stands (candidate g x) (before Incr g x) k) (sym (some_found (candidate g x) (before Incr g x) k) ∙ saved))

  -- the root's entry stays
  entry_top : eqb x g.search.root ≡ true → (k : ℕ) → entry (first_links g k) x ≡ blank root_state
  unfolding first_links
  entry_top r k = entry-root (first_links g k) x r

  -- and so does every entry where a link does not cross
  pub entry-still : (l : ℕ) → crosses (tree_of g) x l (g.link l) ≡ false → entry (first_links g (suc l)) x ≡ entry (first_links g l) x
  entry-still l c = go (eqb x g.search.root) refl
    where
      go : (b : Bool) → eqb x g.search.root ≡ b → entry (first_links g (suc l)) x ≡ entry (first_links g l) x
      go true r = entry_top r (suc l) ∙ sym (entry_top r l)
      go false r = entry_unmoved r l c

-- with no link yet, and with all
entry-none : (g : Net) (x : ℕ) → eqb x g.search.root ≡ false → entry (first_links g 0) x ≡ blank bridge_state
unfolding entry_of state_of saved_of crossed_of best_of some_to best_to priced
entry-none g x r = entry_of_lem g x 0 r

pub entry-start : (g : Net) (x : ℕ) → blank (cond (eqb x g.search.root) root_state bridge_state) ≡ entry (first_links g 0) x
entry-start g x = go (eqb x g.search.root) refl
  where
    go : (b : Bool) → eqb x g.search.root ≡ b → blank (cond b root_state bridge_state) ≡ entry (first_links g 0) x
    go true r = sym (entry_top g x r 0)
    go false r = sym (entry-none g x r)

pub entry-all : (g : Net) (x : ℕ) → entry (first_links g g.links) x ≡ entry g x
unfolding first_links
entry-all g x = refl
