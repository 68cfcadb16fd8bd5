-- The two cursors of the tree distance, from u and from z, and the climbs to the root that say how many hops each begins from it: which
-- of the two is more hops from the root, what a step of it leaves, and what both tell where they have come to one node. Assumes nothing.
use Rattle.std.proofs.Common.{◌≡◌, ℕ, ◌+◌, ◌*◌, ◌<◌, ◌≤◌, false, List, length, get_or, refl, ap, arith}
use Rattle.edition.specs.declared.Search.{Search}
use Rattle.edition.specs.Limits.{node_limit, longest}
use Rattle.tree.specs.declared.Climb.{Climb}
use Rattle.tree.specs.Tree.{Tree, route, under, meet, apart}
use Rattle.tree.specs.Answers.{begun, stepped}
use Rattle.tree.specs.Work.{Rooted, Along}
use Rattle.tree.proofs.Ways.{Home, home-up, nodes_of_lem, route-length, hops-cut}
use Rattle.tree.proofs.Climbing.{along-start, along-step, along-few, along-short, shorter}
use Rattle.tree.proofs.InRows.{tree_in, size_in, few}
use Rattle.tree.proofs.TwoClimbs.{TwoClimbs, climbs_start, climbs_turn, climbs_next, climbs_below, climbs_meet, climbs_apart, longer-not-above}

-- one cursor: where it began has a route of so many hops, and it is on its climb
record Cursor (t : Tree) (u : ℕ) (whole a : Climb) : Type 0 where
  home : Home t u
  rooted : Rooted t u whole
  along : Along t u a

-- two cursors, in a tree of which no sum wraps
pub record Together (t : Tree) (u z : ℕ) (high low a b : Climb) : Type 0 where
  small : t.size ≤ node_limit
  flat : (v : ℕ) → t.rise v ≤ longest
  one : Cursor t u high a
  two : Cursor t z low b
  climbs : TwoClimbs t u z a.node b.node

pub together_start :
    (links parents : List ℕ) (search : Search)
    → ((i : ℕ) → get_or links i 0 ≤ longest) → length parents ≤ node_limit → (u z : ℕ) → Home (tree_in links parents search) u
    → Home (tree_in links parents search) z → (high low a b : Climb) → Rooted (tree_in links parents search) u high
    → Rooted (tree_in links parents search) z low → a ≡ begun u → b ≡ begun z
    → Together (tree_in links parents search) u z high low a b
unfolding begun
together_start links parents search held small u z hu hz high low a b rh rl p q =
    let t = tree_in links parents search in
    record {
      small = rw (size_in links parents search) small;
      flat = few links parents search held;
      one = record { home = hu; rooted = rh; along = along-start t u hu a p };
      two = record { home = hz; rooted = rl; along = along-start t z hz b q };
      climbs = rw (p, q) (climbs_start t hu hz);
    }

module _ {t : Tree} where
  -- how many nodes the route has from where a cursor is, and what can have been counted
  module _ {u : ℕ} {whole a : Climb} (c : Cursor t u whole a) where
    left_is : length (route t a.node) + a.hops ≡ whole.hops + 1
    left_is =
        omega (
          arith,
          c.rooted.hops-is,
          c.along.hops-is,
          nodes_of_lem t u c.home,
          hops-cut t u a.node c.home c.along.on,
        )

    whole_few : whole.hops + 1 ≤ t.size
    whole_few = omega (arith, c.rooted.hops-is, nodes_of_lem t u c.home, route-length t u)

    hops-small : a.hops < t.size
    hops-small = along-few t u c.home a c.along

    dist-small : ((v : ℕ) → t.rise v ≤ longest) → t.size ≤ node_limit → a.dist ≤ node_limit * longest
    dist-small flat small = omega (arith, along-short t u c.home a c.along flat, hops-small)

  module _ {u z : ℕ} {high low a b : Climb} (w : Together t u z high low a b) where
    -- what is said of the first cursor holds of the second too
    pub together_turn : Together t z u low high b a
    together_turn = record { small = w.small; flat = w.flat; one = w.two; two = w.one; climbs = climbs_turn t w.climbs }

    -- no sum of two of their numbers wraps
    pub hops-few : (high.hops ≤ node_limit) × (low.hops ≤ node_limit) × (a.hops ≤ node_limit) × (b.hops ≤ node_limit)
    hops-few =
        let p = whole_few w.one in
        let q = whole_few w.two in
        let s = w.small in
        (omega arith, omega arith, omega (arith, hops-small w.one), omega (arith, hops-small w.two))

    pub lengths_few : (a.dist ≤ node_limit * longest) × (b.dist ≤ node_limit * longest)
    lengths_few = (dist-small w.one w.flat w.small, dist-small w.two w.flat w.small)

    -- what they tell where they have come to one node
    pub met_told : a.node ≡ b.node → (a.node ≡ meet t u z) × (a.dist + b.dist ≡ apart t u z)
    met_told q =
        let hu = w.one.home in
        let hz = w.two.home in (
          climbs_meet t hu hz w.climbs q,
          omega (arith, w.one.along.dist-is, w.two.along.dist-is, climbs_apart t hu hz w.climbs q),
        )

    -- the one that is no fewer hops from the root goes on
    module _ (n : a.node ≡ b.node → ⊥) (more : low.hops + a.hops ≤ high.hops + b.hops) where
      off : under t a.node b.node ≡ false
      off =
          longer-not-above t a.node b.node (home-up t z b.node w.two.home w.two.along.on)
          (omega (arith, left_is w.one, left_is w.two))
          n

      module _ {c : Climb} (s : c ≡ stepped t a) where
        next : c.node ≡ t.up a.node
        unfolding stepped
        next = ap (λ (x : Climb). x.node) s

        pub together_next : Together t u z high low c b
        together_next =
            let hu = w.one.home in
            let hz = w.two.home in
            let inner = climbs_below t hu hz w.climbs off in
            record {
              small = w.small;
              flat = w.flat;
              one =
                  record {
                    home = hu;
                    rooted = w.one.rooted;
                    along = along-step t u hu a.node w.one.along.on inner w.small w.flat a refl w.one.along c s;
                  };
              two = w.two;
              climbs = rw next (climbs_next t hu hz w.climbs off);
            }

        pub together_less : length (route t c.node) < length (route t a.node)
        together_less =
            let inner = climbs_below t w.one.home w.two.home w.climbs off in
            rw next (omega (arith, shorter t u w.one.home a.node w.one.along.on inner))
