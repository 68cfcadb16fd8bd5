-- One entry carried through the links: a climb from the lower end of a link that crosses x up to x, and the entry of one more link.
-- Assumes nothing.
use Rattle.std.proofs.Common.{◌≡◌, ℕ, ◌+◌, ◌^◌, ◌<◌, ◌≤◌, Bool, true, false, cond, not, ◌&&◌, eqb, List, get_or, sym, refl, ap, ◌∙◌, subst, add-one, arith}
use Rattle.std.proofs.Common.{eq-eqb, ne_eqb}
use mathlib.Core.Bool.{beq}
use borrow.Author.Tests.{eqb-false}
use Rattle.edition.specs.declared.Search.{Search}
use Rattle.edition.specs.declared.Entry.{Entry}
use Rattle.edition.specs.Limits.{longest, no_link}
use Rattle.edition.specs.Entries.{first_end, second_end, root_state, bridge_state, blank}
use Rattle.rows.specs.Lists.{differ}
use Rattle.rows.proofs.Tests.{clash, and_none}
use Rattle.network.specs.declared.Link.{Link}
use Rattle.network.specs.Network.{Net, net_of, link_in, links_in, in_service}
use Rattle.network.proofs.Whole.{length_held}
use Rattle.tree.specs.Tree.{tree_of, under}
use Rattle.tree.proofs.Ways.{Home, home-up, under-root, short_of, over_next}
use Rattle.survey.specs.declared.Known.{Known}
use Rattle.survey.specs.Row.{known_at}
use Rattle.sound.proofs.Holding.{first_in, second_in}
use Rattle.swap.specs.Swap.{inner_end, outer_end, lower_mark, crosses}
use Rattle.swap.specs.Work.{through}
use Rattle.swap.specs.Entry.{entry}
use Rattle.swap.proofs.Costing.{crossing_splits, of_inner, of_outer}
use Rattle.table.specs.declared.Costs.{Costs}
use Rattle.table.specs.declared.Standing.{Standing}
use Rattle.table.specs.declared.Side.{Side}
use Rattle.table.specs.Prefix.{first_links, standing_by, offered}
use Rattle.table.specs.Work.{Starts, Started, Carries, Stepping, Stepped, Costing, Priced, Telling, Rising, Risen, Crossed, incr_by, within_by}
use Rattle.table.proofs.Surveys.{fine, in_tree, homes, near_is, dist-few}
use Rattle.table.proofs.Sides.{step_rises, step-few}
use Rattle.table.proofs.Joining.{room-up}
use Rattle.table.proofs.Prefixes.{entry-still, entry-start, entry-all}
use Rattle.table.proofs.Nearness.{row_reads}
use Rattle.table.proofs.Offering.{grown}
use Rattle.table.proofs.Skipping.{first-node, second_node}

-- the climb
module _ {g : Net} {survey : List ℕ} {x : ℕ} where
  pub risen_start : {s : Side} → Rising g survey x s → Risen g survey x s s
  risen_start h = record { rising = h; from_is = refl; lower-is = refl }

  module _ {s : Side} (h : Rising g survey x s) (n : s.climb.node ≡ x → ⊥) where
    node-home : Home (tree_of g) s.climb.node
    node-home = home-up (tree_of g) s.from _ (homes h.surveyed _ (in_tree h.surveyed _ h.low)) h.carries.along.on

    not_top : s.climb.node ≡ (tree_of g).root → ⊥
    not_top = eqb-false _ _ (short_of (tree_of g) _ x node-home h.over n)

    pub rising-steps : Stepping g survey s
    unfolding tree_of
    rising-steps = record { surveyed = h.surveyed; carries = h.carries; low = h.low; below = not_top }

    module _ {r : Side} (step : Stepped g s r) where
      still-over : under (tree_of g) x r.climb.node ≡ true
      still-over = rw step.here (over_next (tree_of g) _ x node-home h.over n)

      pub risen_more : {s₀ : Side} → Risen g survey x s₀ s → Risen g survey x s₀ r
      risen_more i =
          record {
            rising =
                record {
                  surveyed = h.surveyed;
                  carries = subst (λ (v : ℕ). Carries (tree_of g) v r) (sym step.from_is) step.carries;
                  low = rw step.from_is h.low;
                  over = still-over;
                };
            from_is = step.from_is ∙ i.from_is;
            lower-is = step.lower-is ∙ i.lower-is;
          }

      pub rising_less : room-up survey r.climb.node < room-up survey s.climb.node
      rising_less = omega (arith, step_rises rising-steps step, step-few rising-steps step)

-- where it begins
module _ {g : Net} (l : Link) {b : Bool} {s : Side} where
  pub at_first : b ≡ true → Started g l.first first_end s → Started g (cond b l.first l.second) (cond b first_end second_end) s
  at_first q h = rw q h

  pub at_second : b ≡ false → Started g l.second second_end s → Started g (cond b l.first l.second) (cond b first_end second_end) s
  at_second q h = rw q h

-- the way through the link
module _ {g : Net} {survey : List ℕ} (l : Link) (a : Starts g survey l.first) (b : Starts g survey l.second)
    {p q : Known} (pq : p ≡ known_at survey l.first) (qq : q ≡ known_at survey l.second) where
  pub way-is : p.near + l.length + q.near ≡ through (tree_of g) l
  unfolding through
  way-is = omega (arith, near_is a.surveyed _ a.low p pq, near_is b.surveyed _ b.low q qq)

  pub way-fits : l.length ≤ longest → p.near + l.length + q.near < 2 ^ 64
  way-fits m =
      omega (
        arith,
        near_is a.surveyed _ a.low p pq,
        near_is b.surveyed _ b.low q qq,
        dist-few a.surveyed l.first,
        dist-few b.surveyed l.second,
        m,
      )

-- a link that crosses
module _ {g : Net} {search : Search} {links survey : List ℕ} {x e : ℕ} {l : Link} {first : Bool}
    (h : Crossed g search links survey x e l first) where
  pub own_starts : Starts g survey x
  own_starts = record { surveyed = h.surveyed; low = h.low }

  pub first_starts : Starts g survey l.first
  first_starts =
      record {
        surveyed = h.surveyed;
        low = subst (λ (z : Link). z.first < g.nodes) h.link-is (first_in g (fine h.surveyed) e h.there);
      }

  pub second_starts : Starts g survey l.second
  second_starts =
      record {
        surveyed = h.surveyed;
        low = subst (λ (z : Link). z.second < g.nodes) h.link-is (second_in g (fine h.surveyed) e h.there);
      }

  splits : (under (tree_of g) x (inner_end (tree_of g) x l) ≡ true) × (under (tree_of g) x (outer_end (tree_of g) x l) ≡ false)
  splits = crossing_splits (tree_of g) x l e (subst (λ (z : Link). crosses (tree_of g) x e z ≡ true) h.link-is h.cross)

  outer_in : outer_end (tree_of g) x l < g.nodes
  outer_in = of_outer (tree_of g) x l (λ u. u < g.nodes) first_starts.low second_starts.low

  off_top : x ≡ (tree_of g).root → ⊥
  off_top q =
      clash (under-root (tree_of g) _ (homes h.surveyed _ (in_tree h.surveyed _ outer_in)))
      (subst (λ (v : ℕ). under (tree_of g) v (outer_end (tree_of g) x l) ≡ false) q splits.1)

  module _ {s : Side} (b : Started g (cond first l.first l.second) (cond first first_end second_end) s) where
    inner_is : s.from ≡ inner_end (tree_of g) x l
    unfolding inner_end
    inner_is = b.carries.from_is ∙ rw h.first-is

    mark_is : s.lower ≡ lower_mark (tree_of g) x l
    unfolding lower_mark
    mark_is = b.lower-is ∙ rw h.first-is

    pub rising : Rising g survey x s
    rising =
        record {
          surveyed = h.surveyed;
          carries = subst (λ (v : ℕ). Carries (tree_of g) v s) (sym b.carries.from_is) b.carries;
          low = rw inner_is (of_inner (tree_of g) x l (λ u. u < g.nodes) first_starts.low second_starts.low);
          over = rw (b.here ∙ sym b.carries.from_is ∙ inner_is) splits.0;
        }

    module _ {r : Side} (up : Risen g survey x s r × (r.climb.node ≡ x)) where
      pub costing : {k : ℕ} → k ≡ through (tree_of g) l → Costing g survey e k r
      unfolding tree_of
      costing q =
          record {
            stepping =
                record {
                  surveyed = h.surveyed;
                  carries = up.0.rising.carries;
                  low = up.0.rising.low;
                  below = λ z. off_top (sym up.1 ∙ z);
                };
            crossing =
                record {
                  there = h.there;
                  cross = rw up.1 h.cross;
                  low = rw (up.1, h.link-is) (sym (up.0.from_is ∙ inner_is));
                  marked = rw (up.1, h.link-is) (sym (up.0.lower-is ∙ mark_is));
                  through-is = rw h.link-is q;
                  long = rw h.link-is h.long;
                };
          }

      pub carried :
          {k : ℕ} {old new : Entry} {standing : Standing} {c : Costs} {near : Bool}
          → k ≡ through (tree_of g) l → Priced g r.climb.node e c → near ≡ within_by search.depth r.climb.hops
          → standing ≡ standing_by search.rule (incr_by g x) old c → new ≡ offered old standing near e r.lower c
          → old ≡ entry (first_links g e) x → new ≡ entry (first_links g (e + 1)) x
      carried q p n st w was =
          w ∙ grown (costing q) h.search_is p n (st ∙ rw up.1) (rw up.1 was) ∙ rw (up.1, add-one e)

-- from no link to all
module _ (links parents : List ℕ) (search : Search) where
  abbrev g : Net
  g = net_of links parents search

  pub with_none : (x : ℕ) {it : Entry} → it ≡ blank (cond (eqb x search.root) root_state bridge_state) → it ≡ entry (first_links g 0) x
  unfolding net_of
  with_none x q = q ∙ entry-start g x

  pub with_all : (x e : ℕ) {it : Entry} → e ≡ links_in links → it ≡ entry (first_links g e) x → it ≡ entry g x
  unfolding net_of
  with_all x e q i = i ∙ ap (λ (k : ℕ). entry (first_links g k) x) q ∙ entry-all g x

  module _ {x : ℕ} {survey ranks : List ℕ} (t : Telling g x survey ranks) {e : ℕ} (there : e < links_in links)
      {l : Link} (lq : l ≡ link_in links e) where
    pub first-low : l.first < g.nodes
    first-low = first-node links parents search t.surveyed there lq

    pub second_low : l.second < g.nodes
    second_low = second_node links parents search t.surveyed there lq

    module _ {s : Bool} (sq : s ≡ in_service l) where
      crosses-is :
          crosses (tree_of g) x e (g.link e)
          ≡ (s && not (eqb e (get_or parents x no_link)) && differ (under (tree_of g) x l.first) (under (tree_of g) x l.second))
      unfolding crosses net_of tree_of
      crosses-is = rw (sq, lq)

      module _ {old : Entry} (was : old ≡ entry (first_links g e) x) where
        -- a link that does not cross
        stays : crosses (tree_of g) x e (g.link e) ≡ false → old ≡ entry (first_links g (e + 1)) x
        stays c = was ∙ sym (entry-still g x e c) ∙ rw (add-one e)

        pub stays_idle : s ≡ false → old ≡ entry (first_links g (e + 1)) x
        stays_idle q = stays (crosses-is ∙ rw q)

        pub stays_own : {p : ℕ} → p ≡ get_or parents x no_link → p ≡ e → old ≡ entry (first_links g (e + 1)) x
        stays_own q r = stays (crosses-is ∙ rw (eq-eqb e (get_or parents x no_link) (sym r ∙ q)) (rw and_none))

        pub stays_beside :
            {a b : Bool} → a ≡ under (tree_of g) x l.first → b ≡ under (tree_of g) x l.second → beq a b ≡ true
            → old ≡ entry (first_links g (e + 1)) x
        stays_beside p q r = stays (crosses-is ∙ rw (← p, ← q, r, and_none (s && not (eqb e (get_or parents x no_link)))))

      -- one that does
      pub crossed :
          ((i : ℕ) → get_or links i 0 ≤ longest)
          → s ≡ true → {p : ℕ} → p ≡ get_or parents x no_link → (p ≡ e → ⊥)
          → {a b : Bool} → a ≡ under (tree_of g) x l.first → b ≡ under (tree_of g) x l.second → beq a b ≡ false
          → Crossed g search links survey x e l a
      unfolding net_of
      crossed held on pq n aq bq d =
          record {
            surveyed = t.surveyed;
            reads = row_reads links parents search t.surveyed held;
            search_is = refl;
            low = t.low;
            there = there;
            link-is = sym lq;
            cross = crosses-is ∙ rw (on, ne_eqb e (get_or parents x no_link) (λ q. n (pq ∙ sym q)), ← aq, ← bq, d);
            first-is = aq;
            long = rw lq (length_held links held e);
          }
