-- A climb from the lower end of a link, with what it carries, and how it ends. Assumes nothing.
use Rattle.std.proofs.Common.{◌≡◌, ℕ, ◌+◌, ◌-◌, ◌%◌, ◌^◌, ◌<◌, ◌≤◌, max, true, false, eqb, List, sym, refl, ap, ◌∙◌, arith, ne_eqb}
use Rattle.edition.specs.Limits.{node_limit}
use Rattle.network.specs.Network.{Net}
use Rattle.tree.specs.declared.Climb.{Climb}
use Rattle.tree.specs.Tree.{tree_of, dist, under}
use Rattle.tree.specs.Answers.{begun, stepped}
use Rattle.tree.proofs.Ways.{Home, dist-up, dist-step}
use Rattle.tree.proofs.Bounded.{under-below}
use Rattle.tree.proofs.Climbing.{along-start, along-step, on-parent}
use Rattle.survey.specs.declared.Known.{Known}
use Rattle.survey.specs.Known.{count, deepest, aside}
use Rattle.survey.specs.Row.{nodes_in, known_at}
use Rattle.survey.proofs.Inside.{aside-more}
use Rattle.swap.specs.Work.{reach}
use Rattle.swap.proofs.Reaching.{reach-start, reach_step}
use Rattle.table.specs.declared.Side.{Side}
use Rattle.table.specs.Work.{Starts, Started, Stepping, Stepped}
use Rattle.table.proofs.Surveys.{size_is, in_tree, homes, closed, small, there, up_is, near_is, turn_is, deep_is, beside-is, count-is}
use Rattle.table.proofs.Surveys.{dist-few, aside-few, count-few}
use Rattle.table.proofs.TwoSides.{count_rises}

module _ {g : Net} {row : List ℕ} {z : ℕ} (h : Starts g row z) where
  pub start-there : z < nodes_in row
  start-there = there h.surveyed z h.low

  start : reach (tree_of g) z z + dist (tree_of g) z ≡ deepest (tree_of g) z
  start = reach-start (tree_of g) (homes h.surveyed) z (in_tree h.surveyed z h.low)

  module _ {k : Known} (q : k ≡ known_at row z) where
    near : k.near ≡ dist (tree_of g) z
    near = near_is h.surveyed z h.low k q

    deep : k.deep ≡ deepest (tree_of g) z
    deep = deep_is h.surveyed z h.low k q

    pub start_less : k.near ≤ k.deep
    start_less = omega (arith, near, deep, start)

    pub started :
        {c : Climb} (lower : ℕ)
        → c ≡ begun z
        → Started g z lower (record { climb = c; from = z; lower = lower; near = k.near; turn = k.turn; reach = k.deep - k.near })
    unfolding begun
    started {c} lower e =
        let here : c.node ≡ z = ap (λ (x : Climb). x.node) e in
        record {
          carries =
              record {
                along = along-start (tree_of g) z (homes h.surveyed z (in_tree h.surveyed z h.low)) c e;
                from_is = refl;
                near_is = near;
                turn_is = turn_is h.surveyed z h.low k q;
                reach-is = rw here (omega (arith, near, deep, start));
              };
          here = here;
          lower-is = refl;
        }

module _ {g : Net} {row : List ℕ} {s : Side} (h : Stepping g row s) where
  pub from_home : Home (tree_of g) s.from
  from_home = homes h.surveyed s.from (in_tree h.surveyed s.from h.low)

  on : under (tree_of g) s.climb.node s.from ≡ true
  on = h.carries.along.on

  pub off : eqb s.climb.node (tree_of g).root ≡ false
  unfolding tree_of
  off = ne_eqb s.climb.node g.search.root h.below

  node_in : s.climb.node < (tree_of g).size
  node_in = under-below (tree_of g) (closed h.surveyed) s.from s.climb.node from_home (in_tree h.surveyed s.from h.low) on

  pub node-low : s.climb.node < g.nodes
  node-low = omega (arith, node_in, size_is h.surveyed)

  pub node-there : s.climb.node < nodes_in row
  node-there = there h.surveyed s.climb.node node-low

  up_in : (tree_of g).up s.climb.node < (tree_of g).size
  up_in = closed h.surveyed s.climb.node node_in

  up-low : (tree_of g).up s.climb.node < g.nodes
  up-low = omega (arith, up_in, size_is h.surveyed)

  module _ {x : Known} (xq : x ≡ known_at row s.climb.node) where
    next : x.up ≡ (tree_of g).up s.climb.node
    next = up_is h.surveyed s.climb.node node-low x xq

    pub up-there : x.up < nodes_in row
    up-there = rw next (there h.surveyed _ up-low)

    pub up_fits : x.up < 2 ^ 64
    up_fits = omega (arith, next, up_in, small h.surveyed)

    module _ {p : Known} (pq : p ≡ known_at row x.up) where
      p_near : p.near ≡ dist (tree_of g) ((tree_of g).up s.climb.node)
      p_near = near_is h.surveyed _ up-low p (pq ∙ ap (known_at row) next)

      x_near : x.near ≡ dist (tree_of g) s.climb.node
      x_near = near_is h.surveyed _ node-low x xq

      x_beside : x.beside ≡ aside (tree_of g) s.climb.node
      x_beside = beside-is h.surveyed _ node-low x xq

      risen : x.near ≡ (tree_of g).rise s.climb.node + p.near
      risen =
          omega (
            arith,
            x_near,
            p_near,
            dist-step (tree_of g) s.climb.node (homes h.surveyed _ node_in) off,
          )

      pub rise_less : p.near ≤ x.near
      rise_less = omega (arith, risen)

      pub down_less : p.near ≤ s.near
      down_less =
          omega (
            arith,
            p_near,
            h.carries.near_is,
            dist-up (tree_of g) s.from _ from_home (on-parent (tree_of g) s.from from_home s.climb.node on off),
          )

      pub over_less : p.near ≤ x.beside
      over_less =
          omega (
            arith,
            p_near,
            x_beside,
            aside-more (tree_of g) (homes h.surveyed) s.climb.node s.from (in_tree h.surveyed _ h.low) on off up_in,
          )

      pub over-fits : (s.near - p.near) + (x.beside - p.near) < 2 ^ 64
      over-fits = omega (arith, h.carries.near_is, x_beside, dist-few h.surveyed s.from, aside-few h.surveyed s.climb.node)

      step-climb :
          {m d : ℕ}
          → m ≡ (s.climb.hops + 1) % 2 ^ 64 → d ≡ (s.climb.dist + (x.near - p.near)) % 2 ^ 64
          → ◌≡◌ {A = Climb} (record { node = x.up; hops = m; dist = d }) (stepped (tree_of g) s.climb)
      unfolding stepped
      step-climb {m} {d} mq dq =
          let rise : x.near - p.near ≡ (tree_of g).rise s.climb.node = omega (arith, risen) in
          let far : d ≡ (s.climb.dist + (tree_of g).rise s.climb.node) % 2 ^ 64 =
          dq ∙ ap (λ (r : ℕ). (s.climb.dist + r) % 2 ^ 64) rise in
          λ i. record { node = next i; hops = mq i; dist = far i }

      pub stepped-on :
          {m d v : ℕ}
          → m ≡ (s.climb.hops + 1) % 2 ^ 64 → d ≡ (s.climb.dist + (x.near - p.near)) % 2 ^ 64
          → v ≡ max s.reach ((s.near - p.near) + (x.beside - p.near))
          → Stepped g s (record {
            climb = record { node = x.up; hops = m; dist = d };
            from = s.from;
            lower = s.lower;
            near = s.near;
            turn = s.turn;
            reach = v;
          })
      stepped-on {m} {d} {v} mq dq vq =
          record {
            carries =
                record {
                  along =
                      along-step (tree_of g) s.from from_home s.climb.node on off (small h.surveyed) h.surveyed.few
                      s.climb refl h.carries.along _ (step-climb mq dq);
                  from_is = refl;
                  near_is = h.carries.near_is;
                  turn_is = h.carries.turn_is;
                  reach-is =
                      vq ∙ rw (next, p_near, h.carries.near_is, x_beside, h.carries.reach-is)
                      (sym
                      (reach_step (tree_of g) (homes h.surveyed) s.climb.node s.from (in_tree h.surveyed _ h.low) on off up_in));
                };
            here = next;
            from_is = refl;
            lower-is = refl;
          }

  -- with each step more nodes are below where the climb is, and never more than there can be
  module _ {r : Side} (step : Stepped g s r) where
    count_next : (known_at row r.climb.node).count ≡ count (tree_of g) ((tree_of g).up s.climb.node)
    count_next =
        ap (λ (v : ℕ). (known_at row v).count) step.here ∙ count-is h.surveyed ((tree_of g).up s.climb.node) up-low _ refl

    pub step_rises : (known_at row s.climb.node).count < (known_at row r.climb.node).count
    step_rises =
        omega (
          arith,
          count-is h.surveyed s.climb.node node-low _ refl,
          count_next,
          count_rises (tree_of g) (homes h.surveyed) s.climb.node node_in up_in off,
        )

    pub step-few : (known_at row r.climb.node).count ≤ node_limit
    step-few = omega (arith, count_next, count-few h.surveyed ((tree_of g).up s.climb.node))
