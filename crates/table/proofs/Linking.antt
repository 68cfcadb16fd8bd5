-- One link offered to every node that it crosses, by two climbs. Assumes nothing.
use Rattle.std.proofs.Common.{◌≡◌, ℕ, suc, ◌+◌, ◌-◌, ◌/◌, ◌<◌, ◌≤◌, Bool, true, false, cond, not, ◌&&◌, ◌||◌, eqb, List, length, get_or, sym, refl, ap, ◌∙◌}
use Rattle.std.proofs.Common.{subst, arith, ne_eqb, eqb-true}
use borrow.Author.Tests.{eqb-false}
use Rattle.edition.specs.Limits.{node_limit}
use Rattle.edition.specs.Entries.{first_end, second_end}
use Rattle.edition.specs.declared.Search.{Search}
use Rattle.rows.specs.Lists.{has, up_to, differ}
use Rattle.rows.proofs.Tests.{clash, either, not_so, and_none, or_swap}
use Rattle.rows.proofs.Listed.{up_to-out}
use Rattle.network.specs.declared.Link.{Link}
use Rattle.network.specs.Network.{Net, in_service, touches}
use Rattle.tree.specs.Tree.{Tree, tree_of, route, under}
use Rattle.tree.proofs.Ways.{Home}
use Rattle.tree.proofs.Bounded.{under-below}
use Rattle.tree.proofs.Climbing.{passed_none, passed_more}
use Rattle.tree.proofs.TwoClimbs.{TwoClimbs, climbs_start, climbs_turn, climbs_off, climbs_below, climbs_next, not_passed}
use Rattle.survey.specs.Row.{known_at}
use Rattle.sound.specs.Surveyed.{Surveyed}
use Rattle.sound.proofs.Sounds.{Sound}
use Rattle.sound.proofs.Holding.{first_in, second_in, parent-touches, home}
use Rattle.swap.specs.Swap.{inner_end, lower_mark, crosses}
use Rattle.table.proofs.Prefixes.{entry-still}
use Rattle.table.specs.declared.Side.{Side}
use Rattle.table.specs.Table.{is_asked}
use Rattle.table.specs.Work.{Entries, Carries, Crossing, Stepping, Stepped, Offering, want, OfferedAt, Spare, Climbing, Linked, rank_step, rank, Ranked}
use Rattle.table.proofs.Offering.{entries-same}
use Rattle.table.proofs.Surveys.{fine, size_is, homes, closed, small, count-is, count-few}
use Rattle.table.proofs.Sides.{step_rises, step-few}
use Rattle.table.proofs.Ranks.{rank_same, rank-over}

-- a link that does not cross x, or an x that is not asked for: its record stays
module _ (g : Net) (asked before : List ℕ) (e x : ℕ) where
  pub want_kept : (is_asked asked x ≡ true → crosses (tree_of g) x e (g.link e) ≡ false) → want g asked before (suc e) x ≡ want g asked before e x
  unfolding want
  want_kept c = go (is_asked asked x) refl
    where
      go : (m : Bool) → is_asked asked x ≡ m → want g asked before (suc e) x ≡ want g asked before e x
      go false p = rw p
      go true p = rw (p, entry-still g x e (c p))

-- which nodes a spare link crosses
module _ (g : Net) (s : Sound g) (e k : ℕ) (p : Spare g e k) where
  not_own : (x : ℕ) → x < g.nodes → eqb x g.search.root ≡ false → eqb e (g.parent x) ≡ false
  unfolding touches
  not_own x l r =
      ne_eqb e (g.parent x)
      (λ q. either (eqb (g.link e).first x) (eqb (g.link e).second x) (touching q)
      (λ a. p.not_first (ap g.parent (eqb-true (g.link e).first x a) ∙ sym q))
      (λ a b. p.not_second (ap g.parent (eqb-true (g.link e).second x b) ∙ sym q)))
    where
      touching : e ≡ g.parent x → (eqb (g.link e).first x || eqb (g.link e).second x) ≡ true
      touching q = subst (λ (j : ℕ). touches (g.link j) x ≡ true) (sym q) (parent-touches g s x l r)

  spare-crosses :
      (x : ℕ)
      → x < g.nodes → eqb x g.search.root ≡ false
      → crosses (tree_of g) x e (g.link e)
      ≡ differ (under (tree_of g) x (g.link e).first) (under (tree_of g) x (g.link e).second)
  unfolding crosses tree_of
  spare-crosses x l r = rw (p.serves, not_own x l r)

joined : {A : Type 0} (c x y : Bool) (u v : A) → cond c u (cond (x || y) u v) ≡ cond (x || c || y) u v
joined true true y u v = refl
joined true false y u v = refl
joined false true y u v = refl
joined false false y u v = refl

pub differ_same : (a : Bool) → differ a a ≡ false
differ_same true = refl
differ_same false = refl

differ-turn : (x y : Bool) → differ x y ≡ differ y x
differ-turn true true = refl
differ-turn true false = refl
differ-turn false true = refl
differ-turn false false = refl

-- a link's two ends with their marks, in one order or the other
data Ends (l : Link) : ℕ → ℕ → ℕ → ℕ → Type 0 where
  forth : Ends l l.first first_end l.second second_end
  back : Ends l l.second second_end l.first first_end

ends_turn : {l : Link} {y i z j : ℕ} → Ends l y i z j → Ends l z j y i
ends_turn forth = back
ends_turn back = forth

end_in : (g : Net) → Sound g → (e : ℕ) → e < g.links → {y i z j : ℕ} → Ends (g.link e) y i z j → y < (tree_of g).size
unfolding tree_of
end_in g s e l forth = first_in g s e l
end_in g s e l back = second_in g s e l

module _ (t : Tree) where
  end_differs : {l : Link} {y i z j : ℕ} → Ends l y i z j → (x : ℕ) → differ (under t x l.first) (under t x l.second) ≡ differ (under t x y) (under t x z)
  end_differs forth x = refl
  end_differs {l} back x = differ-turn (under t x l.first) (under t x l.second)

  end-lower : {l : Link} {y i z j : ℕ} → Ends l y i z j → (x : ℕ) → under t x y ≡ true → under t x z ≡ false → inner_end t x l ≡ y
  unfolding inner_end
  end-lower forth x p q = rw p
  end-lower back x p q = rw q

  end_mark : {l : Link} {y i z j : ℕ} → Ends l y i z j → (x : ℕ) → under t x y ≡ true → under t x z ≡ false → lower_mark t x l ≡ i
  unfolding lower_mark
  end_mark forth x p q = rw p
  end_mark back x p q = rw q

-- has a climb passed v?
abbrev behind : Tree → Side → ℕ → Bool
behind t a v = has v (up_to a.climb.node (route t a.from))

-- two climbs from the ends of a spare link: the nodes passed have gone on from e links to one more
pub record Between (g : Net) (survey asked : List ℕ) (e k : ℕ) (row₀ : List ℕ) (a b : Side) (row : List ℕ) : Type 0 where
  surveyed : Surveyed g survey
  spare : Spare g e k
  ends : Ends (g.link e) a.from a.lower b.from b.lower
  one : Carries (tree_of g) a.from a
  two : Carries (tree_of g) b.from b
  climbs : TwoClimbs (tree_of g) a.from b.from a.climb.node b.climb.node
  pub size : length row ≡ length row₀
  rows :
      (before : List ℕ)
      → Entries g.nodes (want g asked before e) before row₀
      → Entries g.nodes
      (λ v. cond (behind (tree_of g) a v || behind (tree_of g) b v) (want g asked before (suc e) v)
      (want g asked before e v))
      before row

-- how many more nodes the two can come to have below them
abbrev pub ahead : List ℕ → Side → Side → ℕ
ahead survey a b = node_limit + node_limit - ((known_at survey a.climb.node).count + (known_at survey b.climb.node).count)

-- two climbs that go on, the first of them not above the second
pub record Turn (g : Net) (survey asked : List ℕ) (e k : ℕ) (row₀ : List ℕ) (a b : Side) (row : List ℕ) : Type 0 where
  between : Between g survey asked e k row₀ a b row
  not-over : under (tree_of g) a.climb.node b.climb.node ≡ false

module _ (t : Tree) (y : ℕ) (a : Side) (c : Carries t y a) where
  own : Carries t a.from a
  own = subst (λ (v : ℕ). Carries t v a) (sym c.from_is) c

  none_behind : Home t y → a.climb.node ≡ y → (v : ℕ) → behind t a v ≡ false
  none_behind h q v = rw (q, c.from_is, passed_none t y h v)

module _ {g : Net} {search : Search} {links asked survey ranks row : List ℕ} {e k : ℕ} {a b : Side}
    (h : Climbing g search links asked survey ranks row e k a b) where
  sv : Surveyed g survey
  sv = h.searching.surveyed

  a-home : Home (tree_of g) (g.link e).first
  a-home = home g (fine sv) _ (first_in g (fine sv) e h.spare.there)

  b_home : Home (tree_of g) (g.link e).second
  b_home = home g (fine sv) _ (second_in g (fine sv) e h.spare.there)

  a-none : (v : ℕ) → behind (tree_of g) a v ≡ false
  a-none = none_behind _ _ a h.starting.one a-home h.starting.one_at

  b_none : (v : ℕ) → behind (tree_of g) b v ≡ false
  b_none = none_behind _ _ b h.starting.two b_home h.starting.two_at

  pub between_start : Between g survey asked e k row a b row
  between_start =
      record {
        surveyed = sv;
        spare = h.spare;
        ends = rw (h.starting.one.from_is, h.starting.one_mark, h.starting.two.from_is, h.starting.two_mark) forth;
        one = own _ _ a h.starting.one;
        two = own _ _ b h.starting.two;
        climbs =
            rw (h.starting.one.from_is, h.starting.one_at, h.starting.two.from_is, h.starting.two_at)
            (climbs_start (tree_of g) a-home b_home);
        size = refl;
        rows = λ before i. entries-same _ _ _ before row (λ v l. rw (a-none v, b_none v)) i;
      }

module _ {g : Net} {survey asked : List ℕ} {e k : ℕ} {row₀ : List ℕ} where
  module _ {a b : Side} {row : List ℕ} (i : Between g survey asked e k row₀ a b row) where
    -- what is said of the first climb holds of the second too
    pub between_turn : Between g survey asked e k row₀ b a row
    between_turn =
        record {
          surveyed = i.surveyed;
          spare = i.spare;
          ends = ends_turn i.ends;
          one = i.two;
          two = i.one;
          climbs = climbs_turn (tree_of g) i.climbs;
          size = i.size;
          rows = λ before h. entries-same _ _ _ before row (λ v l. rw (or_swap (behind (tree_of g) a v) (behind (tree_of g) b v))) (i.rows before h);
        }

    from_in : a.from < (tree_of g).size
    from_in = end_in g (fine i.surveyed) e i.spare.there i.ends

    from_home : Home (tree_of g) a.from
    from_home = homes i.surveyed a.from from_in

    node-on : under (tree_of g) a.climb.node a.from ≡ true
    node-on = i.climbs.one

    node_in : a.climb.node < (tree_of g).size
    node_in = under-below (tree_of g) (closed i.surveyed) a.from a.climb.node from_home from_in node-on

    node-low : a.climb.node < g.nodes
    node-low = omega (arith, node_in, size_is i.surveyed)

  module _ {a b : Side} {row : List ℕ} (i : Between g survey asked e k row₀ a b row) where
    module _ {ranks : List ℕ} (r : Ranked (tree_of g) asked ranks) where
      pub node-ranked : (a.climb.node < node_limit) × (a.climb.node < length ranks)
      node-ranked = (omega (arith, node_in i, small i.surveyed), omega (arith, node_in i, r.room))

      rank_at : {x : ℕ} → x ≡ get_or ranks a.climb.node 0 → x ≡ rank (tree_of g) asked a.climb.node
      rank_at q = q ∙ r.each _ (node_in i)

  module _ {a b : Side} {row : List ℕ} (i : Between g survey asked e k row₀ a b row) {ranks : List ℕ} (r : Ranked (tree_of g) asked ranks)
      {x y : ℕ} (xe : x ≡ get_or ranks a.climb.node 0) (ye : y ≡ get_or ranks b.climb.node 0) where
    x_is : x ≡ rank (tree_of g) asked a.climb.node
    x_is = rank_at i r xe

    y_is : y ≡ rank (tree_of g) asked b.climb.node
    y_is = rank_at (between_turn i) r ye

    -- where both have the same rank, every node asked for that the link crosses was passed
    no_longer :
        x ≡ y
        → (v : ℕ) → is_asked asked v ≡ true → (behind (tree_of g) a v || behind (tree_of g) b v) ≡ false
        → differ (under (tree_of g) v a.from) (under (tree_of g) v b.from) ≡ false
    no_longer met v o c =
        let z = not_passed (tree_of g) (from_home i) (from_home (between_turn i)) i.climbs v c in
        rw (z.0, z.1, rank_same i.surveyed asked _ _ (node_in i) (node_in (between_turn i)) (sym x_is ∙ met ∙ y_is) v o)
        (differ_same (under (tree_of g) v b.climb.node))

    not-crossed :
        x ≡ y
        → (v : ℕ) → is_asked asked v ≡ true → (behind (tree_of g) a v || behind (tree_of g) b v) ≡ false
        → crosses (tree_of g) v e (g.link e) ≡ false
    unfolding crosses
    not-crossed met v o c =
        rw (end_differs (tree_of g) i.ends v ∙ no_longer met v o c) (and_none (in_service (g.link e) && not (eqb e ((tree_of g).link v))))

    all_done :
        x ≡ y
        → (before : List ℕ) (v : ℕ) (t : Bool) → (behind (tree_of g) a v || behind (tree_of g) b v) ≡ t
        → cond t (want g asked before (suc e) v) (want g asked before e v) ≡ want g asked before (suc e) v
    all_done met before v true c = refl
    all_done met before v false c = sym (want_kept g asked before e v (λ m. not-crossed met v m c))

    pub between_end : x ≡ y → Linked g g.nodes asked e row₀ row
    between_end met = record { goes_on = λ before h. entries-same _ _ _ before row (λ v l. all_done met before v _ refl) (i.rows before h) }

    -- else the one whose anchor has no more nodes below it is next
    pub first_next : (x ≡ y → ⊥) → x / rank_step ≤ y / rank_step → Turn g survey asked e k row₀ a b row
    first_next n l =
        record {
          between = i;
          not-over =
              rank-over i.surveyed asked _ _ (node_in i) (node_in (between_turn i))
              (rw (← x_is, ← y_is) l)
              (λ q. n (x_is ∙ q ∙ sym y_is));
        }

  -- the link crosses the node where the first is, and the first goes on
  module _ {a b : Side} {row : List ℕ} (turn : Turn g survey asked e k row₀ a b row) where
    i : Between g survey asked e k row₀ a b row
    i = turn.between

    not_behind : behind (tree_of g) b a.climb.node ≡ false
    not_behind = not_so _ (λ q. clash (node-on i) (i.climbs.two-free _ q))

    off : under (tree_of g) a.climb.node b.from ≡ false
    off = climbs_off (tree_of g) (from_home i) (from_home (between_turn i)) i.climbs turn.not-over

    off_root : eqb a.climb.node (tree_of g).root ≡ false
    off_root = climbs_below (tree_of g) (from_home i) (from_home (between_turn i)) i.climbs turn.not-over

    crossing : Crossing g e a k
    unfolding tree_of
    crossing =
        record {
          there = i.spare.there;
          cross =
              spare-crosses g (fine i.surveyed) e k i.spare _ (node_in i) off_root ∙ end_differs (tree_of g) i.ends _ ∙ rw (node-on i, off);
          low = end-lower (tree_of g) i.ends _ (node-on i) off;
          marked = end_mark (tree_of g) i.ends _ (node-on i) off;
          through-is = i.spare.through-is;
          long = i.spare.long;
        }

    pub stepping : Stepping g survey a
    unfolding tree_of
    stepping = record { surveyed = i.surveyed; carries = i.one; low = from_in i; below = eqb-false _ _ off_root }

    pub offering :
        {search : Search} {links ranks : List ℕ} {a₀ b₀ : Side}
        → Climbing g search links asked survey ranks row₀ e k a₀ b₀ → Offering g search links asked survey ranks row e k a
    offering h =
        record {
          searching =
              record {
                surveyed = i.surveyed;
                ranked = h.searching.ranked;
                room = omega (arith, i.size, h.searching.room);
              };
          reads = h.reads;
          search_is = h.search_is;
          costing = record { stepping = stepping; crossing = crossing };
        }

    module _ {a' : Side} (step : Stepped g a a') where
      behind_more : (v : ℕ) → behind (tree_of g) a' v ≡ (behind (tree_of g) a v || eqb a.climb.node v)
      behind_more v = rw (step.here, step.from_is) (passed_more (tree_of g) a.from (from_home i) a.climb.node (node-on i) off_root v)

      pub between_more :
          {row' : List ℕ}
          → OfferedAt g g.nodes asked e a.climb.node row row' → length row' ≡ length row
          → Between g survey asked e k row₀ a' b row'
      between_more {row'} o w =
          record {
            surveyed = i.surveyed;
            spare = i.spare;
            ends = rw (step.from_is, step.lower-is) i.ends;
            one = own _ _ a' step.carries;
            two = i.two;
            climbs = rw (step.here, step.from_is) (climbs_next (tree_of g) (from_home i) (from_home (between_turn i)) i.climbs turn.not-over);
            size = w ∙ i.size;
            rows =
                λ before h.
                entries-same _ _ _ before row'
                (λ v l. joined (eqb a.climb.node v) (behind (tree_of g) a v) (behind (tree_of g) b v) _ _ ∙ rw (behind_more v))
                (o.goes_on before _ (i.rows before h) (rw (up_to-out a.climb.node (route (tree_of g) a.from), not_behind)));
          }

      other : (known_at survey b.climb.node).count ≤ node_limit
      other =
          omega (
            arith,
            count-is i.surveyed _ (node-low (between_turn i)) _ refl,
            count-few i.surveyed b.climb.node,
          )

      pub first_less : ahead survey a' b < ahead survey a b
      first_less = omega (arith, step_rises stepping step, step-few stepping step, other)

      pub second_less : ahead survey b a' < ahead survey b a
      second_less = omega (arith, step_rises stepping step, step-few stepping step, other)
