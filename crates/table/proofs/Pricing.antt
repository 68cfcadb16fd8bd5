-- The costs of a link by the survey and what is carried are those of the definitions. Assumes nothing.
use Rattle.std.proofs.Common.{◌≡◌, ℕ, ◌+◌, ◌-◌, ◌*◌, ◌^◌, ◌<◌, ◌≤◌, true, List, sym, refl, ap, ◌∙◌, subst, ap₂, mul-le-mul, arith}
use Rattle.edition.specs.declared.Measure.TheVariants.{Sum, Incr, Max}
use Rattle.edition.specs.Limits.{node_limit, longest}
use Rattle.network.specs.Network.{Net}
use Rattle.tree.specs.Tree.{tree_of, dist, under, apart}
use Rattle.tree.proofs.Ways.{Home}
use Rattle.tree.proofs.Meeting.{apart_below, apart-dist}
use Rattle.survey.specs.declared.Known.{Known}
use Rattle.survey.specs.Known.{count, base, turn}
use Rattle.survey.specs.Row.{nodes_in, known_at}
use Rattle.sound.specs.Surveyed.{Surveyed}
use Rattle.survey.proofs.Inside.{inside_bound}
use Rattle.sound.proofs.Holding.{first_in, second_in}
use Rattle.swap.specs.Swap.{inner_end, outer_end, crosses, new_dist, cost, cost_of}
use Rattle.swap.specs.Work.{through, reach}
use Rattle.swap.proofs.Costing.{crossing_splits, of_inner, never_nearer, incr_is}
use Rattle.swap.proofs.Folding.{sum_is, through_ends}
use Rattle.swap.proofs.Reaching.{max-is}
use Rattle.table.specs.declared.Side.{Side}
use Rattle.table.specs.Work.{Costing, Crossing, Carries, Priced, incr_by}
use Rattle.table.proofs.Surveys.{fine, in_tree, homes, dist-few, count-few, base-few, near_is, count-is, base-is}
use Rattle.table.proofs.Sides.{from_home, node-low, node-there}

-- what a link that crosses costs by incr: the way through it less twice the distance of the node
module _ {g : Net} {row : List ℕ} (sv : Surveyed g row) (x e : ℕ) (low : x < g.nodes) (there : e < g.links)
    (cross : crosses (tree_of g) x e (g.link e) ≡ true) where
  splits : under (tree_of g) x (inner_end (tree_of g) x (g.link e)) ≡ true
  splits = (crossing_splits (tree_of g) x (g.link e) e cross).0

  inner_home : Home (tree_of g) (inner_end (tree_of g) x (g.link e))
  inner_home =
      of_inner (tree_of g) x (g.link e) (Home (tree_of g))
      (homes sv _ (in_tree sv _ (first_in g (fine sv) e there))) (homes sv _ (in_tree sv _ (second_in g (fine sv) e there)))

  own_new :
      new_dist (tree_of g) x (g.link e) x
      ≡ apart (tree_of g) x (inner_end (tree_of g) x (g.link e)) + (g.link e).length + dist (tree_of g) (outer_end (tree_of g) x (g.link e))
  unfolding new_dist
  own_new = refl

  incr_whole : cost_of Incr g x e + 2 * dist (tree_of g) x ≡ through (tree_of g) (g.link e)
  unfolding cost_of
  incr_whole =
      omega (
        arith,
        incr_is g (fine sv) x e there cross low,
        never_nearer g (fine sv) x e there cross x low,
        own_new,
        apart_below (tree_of g) x (inner_end (tree_of g) x (g.link e)) inner_home splits,
        through_ends (tree_of g) (homes sv) x (g.link e) inner_home splits,
      )

  pub incr_by_lem : incr_by g x e ≡ cost_of Incr g x e
  unfolding incr_by
  incr_by_lem = omega (arith, incr_whole)

module _ {g : Net} {row : List ℕ} {e k : ℕ} {s : Side} (h : Costing g row e k s) where
  sv : Surveyed g row
  sv = h.stepping.surveyed

  i : Carries (tree_of g) s.from s
  i = h.stepping.carries

  c : Crossing g e s k
  c = h.crossing

  hz : Home (tree_of g) s.from
  hz = from_home h.stepping

  pub x_low : s.climb.node < g.nodes
  x_low = node-low h.stepping

  pub x_there : s.climb.node < nodes_in row
  x_there = node-there h.stepping

  hl : Home (tree_of g) (inner_end (tree_of g) s.climb.node (g.link e))
  hl = rw c.low hz

  pl : under (tree_of g) s.climb.node (inner_end (tree_of g) s.climb.node (g.link e)) ≡ true
  pl = rw c.low i.along.on

  -- the sum
  sums : cost_of Sum g s.climb.node e + turn (tree_of g) s.from ≡ base (tree_of g) s.climb.node + count (tree_of g) s.climb.node * k
  unfolding cost_of
  sums =
      subst
      (λ (z : ℕ). cost Sum (tree_of g) s.climb.node (g.link e) + turn (tree_of g) z
      ≡ base (tree_of g) s.climb.node + count (tree_of g) s.climb.node * k)
      c.low
      (rw c.through-is (sum_is (tree_of g) (homes sv) s.climb.node (g.link e) hl pl))

  -- K from the lower end
  ends : k ≡ dist (tree_of g) s.from + (g.link e).length + dist (tree_of g) (outer_end (tree_of g) s.climb.node (g.link e))
  ends =
      subst
      (λ (z : ℕ). k ≡ dist (tree_of g) z + (g.link e).length + dist (tree_of g) (outer_end (tree_of g) s.climb.node (g.link e)))
      c.low
      (c.through-is ∙ through_ends (tree_of g) (homes sv) s.climb.node (g.link e) hl pl)

  maxes : cost_of Max g s.climb.node e ≡ s.reach + (k - dist (tree_of g) s.from)
  unfolding cost_of
  maxes =
      max-is (tree_of g) (homes sv) s.climb.node (g.link e) (in_tree sv _ x_low) hl pl ∙
      subst
      (λ (z : ℕ). reach (tree_of g) s.climb.node z +
      ((g.link e).length + dist (tree_of g) (outer_end (tree_of g) s.climb.node (g.link e)))
      ≡ s.reach + (k - dist (tree_of g) s.from))
      (sym c.low)
      (omega (arith, i.reach-is, ends))

  incrs : cost_of Incr g s.climb.node e + 2 * dist (tree_of g) s.climb.node ≡ k
  incrs = incr_whole sv s.climb.node e x_low c.there c.cross ∙ sym c.through-is

  -- K is small
  k_small : k ≤ 3 * (node_limit * longest)
  k_small =
      omega (
        arith,
        ends,
        dist-few sv s.from,
        dist-few sv (outer_end (tree_of g) s.climb.node (g.link e)),
        c.long,
      )

  reach-small : s.reach ≤ 2 * (node_limit * longest)
  unfolding reach
  reach-small =
      rw i.reach-is
      (inside_bound (tree_of g) s.climb.node (λ u. apart (tree_of g) u s.from) (2 * (node_limit * longest))
      (λ u m p. omega (arith, apart-dist (tree_of g) u s.from (homes sv u m) hz, dist-few sv u, dist-few sv s.from)))

  -- what the code reads, and that nothing wraps or falls below 0
  module _ {x : Known} (xq : x ≡ known_at row s.climb.node) where
    near : x.near ≡ dist (tree_of g) s.climb.node
    near = near_is sv _ x_low x xq

    n_is : x.count ≡ count (tree_of g) s.climb.node
    n_is = count-is sv _ x_low x xq

    product_bound : x.count * k ≤ node_limit * (3 * (node_limit * longest))
    product_bound =
        let m : x.count ≤ node_limit = rw n_is (count-few sv s.climb.node) in
        mul-le-mul m k_small

    pub product_fits : x.count * k < 2 ^ 64
    product_fits = omega (arith, product_bound)

    pub own_less : 2 * x.near ≤ k
    own_less = omega (arith, incrs, near)

    pub own-fits : 2 * x.near < 2 ^ 64
    own-fits = omega (arith, own_less, k_small)

    b_is : x.base ≡ base (tree_of g) s.climb.node
    b_is = base-is sv _ x_low x xq

    pub whole_fits : x.base + x.count * k < 2 ^ 64
    whole_fits = omega (arith, b_is, product_bound, base-few sv s.climb.node)

    whole_is : x.base + x.count * k ≡ cost_of Sum g s.climb.node e + turn (tree_of g) s.from
    whole_is = ap₂ ◌+◌ b_is (ap (λ (v : ℕ). v * k) n_is) ∙ sym sums

    pub turn_less : s.turn ≤ x.base + x.count * k
    turn_less = omega (arith, i.turn_is, whole_is)

    pub priced : Priced g s.climb.node e (record { sum = x.base + x.count * k - s.turn; incr = k - 2 * x.near; max = s.reach + (k - s.near) })
    priced =
        record {
          sum_is = omega (arith, i.turn_is, whole_is);
          incr_is = omega (arith, incrs, near);
          max-is = rw i.near_is (sym maxes);
        }

  pub rest_less : s.near ≤ k
  rest_less = omega (arith, ends, i.near_is)

  pub max-fits : s.reach + (k - s.near) < 2 ^ 64
  max-fits = omega (arith, reach-small, k_small)
