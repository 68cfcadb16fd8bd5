-- Offering a link to a node: its record goes on from the entry of e links to that of one more. Assumes nothing.
use Rattle.std.proofs.Common.{◌≡◌, ℕ, suc, ◌+◌, ◌%◌, ◌<◌, ◌≤◌, Bool, true, false, cond, not, ◌&&◌, ◌||◌, eqb, ltb, leb, List, length, get_or, sym, refl, ap}
use Rattle.std.proofs.Common.{◌∙◌, subst, add-one, arith, ltb-false, le-ltb, eq-eqb, ne_eqb, eqb-true, leb-true}
use borrow.Author.Tests.{not-true, not-false}
use Rattle.edition.specs.declared.Search.{Search}
use Rattle.edition.specs.declared.Swap.{Swap}
use Rattle.edition.specs.declared.Entry.{Entry}
use Rattle.edition.specs.declared.Measure.TheVariants.{Incr}
use Rattle.edition.specs.Limits.{node_limit, whole_search, nearer_first}
use Rattle.edition.specs.Entries.{swap_state}
use Rattle.entries.specs.Row.{entry_row, entries_in, entry_at, put_entry}
use Rattle.rows.proofs.Tests.{clash, and_left, and_right, or_right, not_so}
use Rattle.network.specs.Network.{Net}
use Rattle.tree.specs.Tree.{tree_of, hops}
use Rattle.swap.specs.Swap.{inner_end, within, candidate, cost_of}
use Rattle.swap.proofs.Stating.{candidate-crosses}
use Rattle.swap.specs.Entry.{entry}
use Rattle.table.specs.Prefix.{first_links, kept, tied_by, standing_by, offered, settled, all_settled, no_better, unbettered}
use Rattle.table.specs.declared.Offer.{Offer}
use Rattle.table.specs.declared.Costs.{Costs}
use Rattle.table.specs.declared.Standing.{Standing}
use Rattle.table.specs.declared.Side.{Side}
use Rattle.table.specs.declared.Bid.{Bid}
use Rattle.table.specs.Table.{is_asked}
use Rattle.table.specs.Work.{Entries, rank_step, Starts, Costing, Offering, Bidding, bid_of, standing_in, Priced, incr_by, want, OfferedAt, Worth, within_by}
use Rattle.table.proofs.Prefixes.{entry-offered, least_known}
use Rattle.table.proofs.Slots.{entry_known, entries_put}
use Rattle.survey.specs.Known.{count}
use Rattle.table.proofs.Surveys.{size_is, in_tree, homes, small}
use Rattle.table.proofs.Pricing.{incr_by_lem, x_low}
use Rattle.table.proofs.Ranks.{rank_parts, rank-own, rank_other}

-- the same records, told otherwise
pub entries-same : (n : ℕ) (f g : ℕ → List ℕ) (before row : List ℕ) → ((x : ℕ) → x < n → f x ≡ g x) → Entries n f before row → Entries n g before row
entries-same n f g before row q h =
    record { size = h.size; each = λ x l. h.each x l ∙ q x l; rest = h.rest }

module _ (g : Net) (asked before : List ℕ) where
  want-marked : (k x : ℕ) → is_asked asked x ≡ true → want g asked before k x ≡ entry_row (entry (first_links g k) x)
  unfolding want
  want-marked k x e = rw e

  want_unmarked : (k j x : ℕ) → is_asked asked x ≡ false → want g asked before k x ≡ want g asked before j x
  unfolding want
  want_unmarked k j x e = rw e

pub not-marked : (asked : List ℕ) (x m : ℕ) → m ≡ get_or asked x 0 → m ≡ 0 → is_asked asked x ≡ false
unfolding is_asked
not-marked asked x m q z = rw (eq-eqb (get_or asked x 0) 0 (sym q ∙ z))

pub is-marked : (asked : List ℕ) (x m : ℕ) → m ≡ get_or asked x 0 → (m ≡ 0 → ⊥) → is_asked asked x ≡ true
unfolding is_asked
is-marked asked x m q z = rw (ne_eqb (get_or asked x 0) 0 (λ y. z (q ∙ y)))

-- a node whose record one more link leaves
offered-still : (g : Net) (n : ℕ) (asked : List ℕ) (e x : ℕ) (row : List ℕ)
    → ((before : List ℕ) (f : ℕ → List ℕ) → Entries n f before row → f x ≡ want g asked before e x → f x ≡ want g asked before (suc e) x)
    → OfferedAt g n asked e x row row
offered-still g n asked e x row stays =
    record {
      goes_on = λ before f h w. entries-same n f _ before row (λ y l. same before f (stays before f h w) y (eqb x y) refl) h;
    }
  where
    same :
        (before : List ℕ) (f : ℕ → List ℕ)
        → f x ≡ want g asked before (suc e) x → (y : ℕ) (b : Bool) → eqb x y ≡ b
        → f y ≡ cond b (want g asked before (suc e) y) (f y)
    same before f w y true p = subst (λ (v : ℕ). f v ≡ want g asked before (suc e) v) (eqb-true x y p) w
    same before f w y false p = refl

-- a swap link stays that costs no more than a later one, nor more by incr where that decides
kept_old : (s : Swap) (tied : ℕ) (o : Offer) → s.cost ≤ o.cost → tied ≤ o.incr → kept true tied s o ≡ s
unfolding kept
kept_old s tied o l m = rw (le-ltb o.cost s.cost l, le-ltb o.incr tied m)

-- one that stays costs no more by incr, where that decides, than what nothing costs less than
settled_nearest :
    (rule : ℕ) (f : ℕ → ℕ) (s least : Swap) (cost incr : ℕ)
    → (rule ≡ nearer_first → settled s least cost ≡ true) → f least.link ≤ incr → tied_by rule f s cost ≤ incr
unfolding tied_by settled
settled_nearest rule f s least cost incr h l = go (eqb rule nearer_first) refl (eqb cost s.cost) refl
  where
    go : (t : Bool) → eqb rule nearer_first ≡ t → (v : Bool) → eqb cost s.cost ≡ v → tied_by rule f s cost ≤ incr
    go true r true q =
        let same = eq-eqb s.cost cost (sym (eqb-true cost s.cost q)) in
        let least_is : eqb s.link least.link ≡ true = rw same at (h (eqb-true rule nearer_first r)) in
        rw (r, q) (subst (λ (b : ℕ). f b ≤ incr) (sym (eqb-true s.link least.link least_is)) l)
    go true r false q = rw (r, q) (omega arith)
    go false r v q = rw r (omega arith)

all-four : (a b c d : Bool) → (a && b && c && d) ≡ true → (a ≡ true) × (b ≡ true) × (c ≡ true) × (d ≡ true)
all-four true true true d h = (refl, refl, refl, h)
all-four true true false d h = clash h refl
all-four true false c d h = clash h refl
all-four false b c d h = clash h refl

-- an entry that one more link leaves as it is; f says of a link what it costs by incr
module _ (rule : ℕ) (old : Entry) (c : Costs) (h : unbettered rule old c ≡ true) where
  parts : (eqb old.state swap_state ≡ true) × (old.sum.cost ≤ c.sum) × (old.incr.cost ≤ c.incr) × (old.max.cost ≤ c.max)
  unfolding unbettered no_better
  parts =
      let z =
      all-four (eqb old.state swap_state) (not (ltb c.sum old.sum.cost)) (not (ltb c.incr old.incr.cost)) _
      (and_left (no_better old c) _ h) in (
        z.0,
        ltb-false c.sum old.sum.cost (not-true _ z.1),
        ltb-false c.incr old.incr.cost (not-true _ z.2),
        leb-true old.max.cost c.max z.3,
      )

  pub has_swap : eqb old.state swap_state ≡ true
  has_swap = parts.0

  both_settled : rule ≡ nearer_first → all_settled old c ≡ true
  unfolding unbettered
  both_settled r =
      let z : (not (eqb rule nearer_first) || all_settled old c) ≡ true = and_right (no_better old c) _ h in
      rw (eq-eqb rule nearer_first r) at z

  sum-settled : rule ≡ nearer_first → settled old.sum old.incr c.sum ≡ true
  unfolding all_settled
  sum-settled r = and_left _ _ (both_settled r)

  max-settled : rule ≡ nearer_first → settled old.max old.incr c.max ≡ true
  unfolding all_settled
  max-settled r = and_right (settled old.sum old.incr c.sum) _ (both_settled r)

  module _ (f : ℕ → ℕ) (least : f old.incr.link ≡ old.incr.cost) where
    least_less : f old.incr.link ≤ c.incr
    least_less = omega (arith, least, parts.2)

    pub stays_old : (e lower : ℕ) (b : Bool) → offered old (standing_by rule f old c) b e lower c ≡ old
    unfolding offered standing_by
    stays_old e lower true =
        rw has_swap
        (λ i. record {
          state = sym (eqb-true old.state swap_state has_swap) i;
          sum =
              kept_old old.sum (tied_by rule f old.sum c.sum) (record { link = e; cost = c.sum; incr = c.incr; lower = lower })
              parts.1 (settled_nearest rule f old.sum old.incr c.sum c.incr sum-settled least_less) i;
          incr = kept_old old.incr 0 (record { link = e; cost = c.incr; incr = c.incr; lower = lower }) parts.2 (omega arith) i;
          max =
              kept_old old.max (tied_by rule f old.max c.max) (record { link = e; cost = c.max; incr = c.incr; lower = lower })
              parts.3 (settled_nearest rule f old.max old.incr c.max c.incr max-settled least_less) i;
        })
    stays_old e lower false =
        rw has_swap
        (λ i. record { state = sym (eqb-true old.state swap_state has_swap) i; sum = old.sum; incr = old.incr; max = old.max })

-- the entry of one more link, which crosses
module _ {g : Net} {search : Search} {survey : List ℕ} {e k : ℕ} {s : Side} (h : Costing g survey e k s) (same : g.search ≡ search) where
  off : eqb s.climb.node g.search.root ≡ false
  off = ne_eqb s.climb.node g.search.root h.stepping.below

  near_is :
      (b : Bool)
      → b ≡ within_by search.depth s.climb.hops
      → b ≡ within (tree_of g) g.search.depth s.climb.node (inner_end (tree_of g) s.climb.node (g.link e))
  unfolding within_by within
  near_is b q =
      q
      ∙ ap (λ (z : Search). eqb z.depth whole_search || leb s.climb.hops z.depth) (sym same)
      ∙ ap (λ (j : ℕ). eqb g.search.depth whole_search || leb j g.search.depth)
      (h.stepping.carries.along.hops-is ∙ ap (hops (tree_of g) s.climb.node) (sym h.crossing.low))

  -- what a candidate costs by incr
  pub known : (b : ℕ) → b < e → candidate g s.climb.node b ≡ true → incr_by g s.climb.node b ≡ cost_of Incr g s.climb.node b
  known b l c =
      incr_by_lem h.stepping.surveyed s.climb.node b (x_low h) (omega (arith, l, h.crossing.there)) (candidate-crosses g s.climb.node b c)

  pub grown :
      {old : Entry} {standing : Standing} {v : Costs} {b : Bool}
      → Priced g s.climb.node e v → b ≡ within_by search.depth s.climb.hops
      → standing ≡ standing_by search.rule (incr_by g s.climb.node) old v → old ≡ entry (first_links g e) s.climb.node
      → offered old standing b e s.lower v ≡ entry (first_links g (suc e)) s.climb.node
  grown {old} {standing} {v} {b} r q st was =
      let x = s.climb.node in
      ap (λ (z : Standing). offered old z b e s.lower v) st
      ∙ ap (λ (o : Entry). offered o (standing_by search.rule (incr_by g x) o v) b e s.lower v) was
      ∙ ap
      (λ (z : Search). offered (entry (first_links g e) x)
      (standing_by z.rule (incr_by g x) (entry (first_links g e) x) v) b e s.lower v)
      (sym same)
      ∙ sym
      (entry-offered g x off e (incr_by g x) known h.crossing.cross b (near_is b q) v r.sum_is r.incr_is r.max-is s.lower
      (sym h.crossing.marked))

module _ {g : Net} {search : Search} {links asked survey ranks row : List ℕ} {e k : ℕ} {s : Side}
    (h : Offering g search links asked survey ranks row e k s) where
  pub low : s.climb.node < g.nodes
  low = x_low h.costing

  pub starts : Starts g survey s.climb.node
  starts = record { surveyed = h.searching.surveyed; low = low }

  pub has-rank : s.climb.node < length ranks
  has-rank = omega (arith, low, h.searching.ranked.room, size_is h.searching.surveyed)

  pub has-entry : s.climb.node < entries_in row
  has-entry = omega (arith, low, h.searching.room)

  pub node-few : s.climb.node < node_limit
  node-few = omega (arith, low, small h.searching.surveyed, size_is h.searching.surveyed)

  node_in : s.climb.node < (tree_of g).size
  node_in = in_tree h.searching.surveyed _ low

  -- by the number in its rank a node is asked for or not
  pub is_asked_lem : get_or ranks s.climb.node 0 % rank_step ≡ s.climb.node + 1 → is_asked asked s.climb.node ≡ true
  is_asked_lem q = go (is_asked asked s.climb.node) refl
    where
      go : (b : Bool) → is_asked asked s.climb.node ≡ b → is_asked asked s.climb.node ≡ true
      go true p = p
      go false p =
          absurd
          (rank_other h.searching.surveyed asked s.climb.node node_in p
          (ap (λ (r : ℕ). r % rank_step) (sym (h.searching.ranked.each _ node_in)) ∙ q ∙ add-one s.climb.node))

  pub not_asked : (get_or ranks s.climb.node 0 % rank_step ≡ s.climb.node + 1 → ⊥) → is_asked asked s.climb.node ≡ false
  not_asked n =
      not_so (is_asked asked s.climb.node)
      (λ p. n
      (ap (λ (r : ℕ). r % rank_step)
      (h.searching.ranked.each _ node_in ∙ rank-own (tree_of g) asked s.climb.node (homes h.searching.surveyed _ node_in) p)
      ∙ (rank_parts (count (tree_of g) s.climb.node) node-few).1 ∙ sym (add-one s.climb.node)))

  -- a node that is not asked for
  offered-none : is_asked asked s.climb.node ≡ false → OfferedAt g g.nodes asked e s.climb.node row row
  offered-none z =
      offered-still g g.nodes asked e s.climb.node row
      (λ before f i w. w ∙ want_unmarked g asked before e (suc e) s.climb.node z)

  pub worth_none : is_asked asked s.climb.node ≡ false → Worth g g.nodes asked e s.climb.node row false
  worth_none z = record { yes = λ w. clash w refl; no = λ w. offered-none z }

  -- one that is
  module _ (on : is_asked asked s.climb.node ≡ true) {old : Entry} (p : old ≡ entry_at row s.climb.node) {v : Costs}
      (r : Priced g s.climb.node e v) where
    was :
        (before : List ℕ) (f : ℕ → List ℕ)
        → Entries g.nodes f before row → f s.climb.node ≡ want g asked before e s.climb.node
        → old ≡ entry (first_links g e) s.climb.node
    was before f i w =
        p ∙ entry_known _ f before row s.climb.node (entry (first_links g e) s.climb.node) i low (w ∙ want-marked g asked before e s.climb.node on)

    -- and which one more link leaves
    offered-kept : unbettered search.rule old v ≡ true → OfferedAt g g.nodes asked e s.climb.node row row
    offered-kept n =
        offered-still g g.nodes asked e s.climb.node row
        (λ before f i w.
        let x = s.climb.node in
        let is = was before f i w in
        let top = off h.costing h.search_is in
        let swap = subst (λ (o : Entry). eqb o.state swap_state ≡ true) is (has_swap search.rule old v n) in
        let least =
        subst (λ (o : Entry). incr_by g x o.incr.link ≡ o.incr.cost) (sym is)
        (least_known g x (incr_by g x) e (known h.costing h.search_is) top swap) in
        let stays = stays_old search.rule old v n (incr_by g x) least e s.lower _ in
        w ∙ want-marked g asked before e x on ∙ ap entry_row (sym is ∙ sym stays ∙ grown h.costing h.search_is r refl refl is)
        ∙ sym (want-marked g asked before (suc e) x on))

    -- what the tests say of it
    pub worth_lower : no_better old v ≡ false → Worth g g.nodes asked e s.climb.node row true
    worth_lower q = record { yes = λ z. on; no = λ z. clash refl z }

    pub worth_not : no_better old v ≡ true → (search.rule ≡ nearer_first → ⊥) → Worth g g.nodes asked e s.climb.node row false
    unfolding unbettered
    worth_not q n = record { yes = λ z. on; no = λ z. offered-kept (rw (q, ne_eqb search.rule nearer_first n)) }

    pub worth_tied : no_better old v ≡ true → {b : Bool} → b ≡ all_settled old v → Worth g g.nodes asked e s.climb.node row (not b)
    unfolding unbettered
    worth_tied q {b} t =
        record {
          yes = λ z. on;
          no = λ z. offered-kept (rw (q, sym t ∙ not-false b z) (or_right (not (eqb search.rule nearer_first)) true refl));
        }

    offered-one :
        {b : Bool} {standing : Standing} {new : Entry} {row' : List ℕ}
        → b ≡ within_by search.depth s.climb.hops → standing ≡ standing_by search.rule (incr_by g s.climb.node) old v
        → new ≡ offered old standing b e s.lower v
        → row' ≡ put_entry row s.climb.node new → OfferedAt g g.nodes asked e s.climb.node row row'
    offered-one {b} {standing} {new} {row'} bq st w u =
        record {
          goes_on =
              λ before f i z.
              let New-is = w ∙ grown h.costing h.search_is r bq st (was before f i z) in
              rw u
              (entries-same _ _ _ before _ (λ y l. told before f New-is y (eqb s.climb.node y) refl)
              (entries_put _ f before row s.climb.node new i low (omega (arith, i.size, h.searching.room))));
        }
      where
        told :
            (before : List ℕ) (f : ℕ → List ℕ)
            → new ≡ entry (first_links g (suc e)) s.climb.node → (y : ℕ) (t : Bool) → eqb s.climb.node y ≡ t
            → cond t (entry_row new) (f y) ≡ cond t (want g asked before (suc e) y) (f y)
        told before f a y true d =
            subst (λ (j : ℕ). entry_row new ≡ want g asked before (suc e) j) (eqb-true s.climb.node y d)
            (ap entry_row a ∙ sym (want-marked g asked before (suc e) s.climb.node on))
        told before f a y false d = refl

-- what the code hands on
pub bidding :
    {g : Net} {search : Search} {links asked survey ranks row : List ℕ} {e k : ℕ} {s : Side} {c : Costs} {bid : Bid}
    → Offering g search links asked survey ranks row e k s → Priced g s.climb.node e c → is_asked asked s.climb.node ≡ true
    → bid ≡ bid_of s c → Bidding g search links asked survey ranks row e k s bid
unfolding bid_of
bidding {g} {e = e} {s = s} h p on q =
    let costs-are = ap (λ (b : Bid). b.costs) q in
    record {
      offering = h;
      priced = subst (Priced g s.climb.node e) (sym costs-are) p;
      on = on;
      is = q ∙ ap (bid_of s) (sym costs-are);
    }

-- what is offered, as the code has it
module _ {g : Net} {search : Search} {links asked survey ranks row : List ℕ} {e k : ℕ} {s : Side} {bid : Bid}
    (h : Bidding g search links asked survey ranks row e k s bid) where
  node-is : bid.node ≡ s.climb.node
  unfolding bid_of
  node-is = ap (λ (b : Bid). b.node) h.is

  hops_are : bid.hops ≡ s.climb.hops
  unfolding bid_of
  hops_are = ap (λ (b : Bid). b.hops) h.is

  lower-is : bid.lower ≡ s.lower
  unfolding bid_of
  lower-is = ap (λ (b : Bid). b.lower) h.is

  pub bid_there : bid.node < entries_in row
  bid_there = rw node-is (has-entry h.offering)

  pub bid_starts : Starts g survey bid.node
  bid_starts = rw node-is (starts h.offering)

  pub offered_bid :
      {old : Entry} {b : Bool} {standing : Standing} {new : Entry} {row' : List ℕ}
      → old ≡ entry_at row bid.node → b ≡ within_by search.depth bid.hops → standing ≡ standing_in g search row bid
      → new ≡ offered old standing b e bid.lower bid.costs → row' ≡ put_entry row bid.node new
      → OfferedAt g g.nodes asked e s.climb.node row row'
  unfolding standing_in
  offered_bid {old} p q t w u =
      let told = t ∙ ap (λ (o : Entry). standing_by search.rule (incr_by g bid.node) o bid.costs) (sym p) in
      offered-one h.offering h.on (rw node-is at p) h.priced (rw hops_are at q) (rw node-is at told) (rw lower-is at w) (rw node-is at u)

  pub standing_bid :
      {old : Entry} {standing : Standing}
      → old ≡ entry_at row bid.node → standing ≡ standing_by search.rule (incr_by g bid.node) old bid.costs
      → standing ≡ standing_in g search row bid
  unfolding standing_in
  standing_bid p t = t ∙ ap (λ (o : Entry). standing_by search.rule (incr_by g bid.node) o bid.costs) p
