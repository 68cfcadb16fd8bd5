-- All nodes in turn: either one has no route, and is the lowest such, or all have places. Assumes nothing.
use Rattle.std.specs.Prelude.{None, Option, Some}
use mathlib.Core.Path.{◌≡◌, refl, ◌∙◌}
use mathlib.Core.Bool.{true, false}
use mathlib.Core.List.{List}
use Prim.Native.Nat.{ℕ, suc, ◌+◌, ◌-◌, ◌<◌, ◌≤◌}
use native.Mathlib.Numerals.{add-one}
use native.Mathlib.Omega.{arith}
use lib.ListN.{length, get_or}
use Rattle.rows.specs.First.{first_to}
use Rattle.rows.proofs.Tests.{lastly}
use Rattle.rows.proofs.Best.{nowhere, here, first-is, first_unique}
use Rattle.tree.specs.Tree.{Tree, has_route}
use Rattle.survey.specs.Survey.{routeless}
use Rattle.survey.specs.Work.{Closed, Order, free, Path, Placed, Ready, Settled}
use Rattle.rows.proofs.Counting.{sum-none}
use Rattle.survey.proofs.Placing.{free_some}

-- every node has a place
module _ (t : Tree) (m : ℕ) (order seats : List ℕ) (s : Placed t m order seats) (all : (u : ℕ) → u < t.size → 0 < get_or seats u 0) where
  full : m ≡ t.size
  full = omega (arith, s.all, sum-none (free seats) t.size (λ u l. free_some seats u (all u l)))

  seat_is : (u : ℕ) → u < t.size → get_or seats u 0 ≡ suc (get_or seats u 0 - 1)
  seat_is u l = omega (arith, all u l)

  pub ordered : Closed t → Order t order
  ordered closed =
      record {
        closed = closed;
        room = s.order_room;
        place = λ u. get_or seats u 0 - 1;
        node = λ i l. s.node i (omega (arith, full));
        here = λ i l. omega (arith, s.here i (omega (arith, full)));
        within = λ u l. omega (arith, all u l, s.within u l, full);
        there = λ u l. s.there u (get_or seats u 0 - 1) l (seat_is u l);
        first = omega (arith, s.first);
        above = λ u l r. omega (arith, s.above u l r (all u l), s.up-placed u l r (all u l));
        home = λ u l. s.home u l (all u l);
      }

-- the nodes below u have places
pub record Turning (t : Tree) (before from path₀ : List ℕ) (u m : ℕ) (order seats path : List ℕ) : Type 0 where
  pub low : u ≤ t.size
  pub placed : Placed t m order seats
  done : (v : ℕ) → v < u → 0 < get_or seats v 0
  pub order_same : length order ≡ length before
  pub seats_same : length seats ≡ length from
  pub path_same : length path ≡ length path₀

-- what the function promises
module _ (t : Tree) where
  abbrev pub Answered : Option ℕ → List ℕ → Type 0
  Answered r order = (r ≡ first_to (routeless t) t.size) × (r ≡ None → Order t order)

module _ (t : Tree) (closed : Closed t) (before from path₀ : List ℕ) where
  pub turning_start : Placed t 1 before from → Turning t before from path₀ 0 1 before from path₀
  turning_start p =
      record { low = omega arith; placed = p; done = λ v l. absurd (omega arith); order_same = refl; seats_same = refl; path_same = refl }

  module _ (u m : ℕ) (order seats path : List ℕ) (s : Turning t before from path₀ u m order seats path) where
    found-route : (v : ℕ) → v < u → routeless t v ≡ false
    unfolding routeless
    found-route v l = rw (s.placed.home v (omega (arith, s.low)) (s.done v l))

    pub turning_end : t.size ≤ u → Answered t None order
    turning_end l = (
      first_unique (routeless t) t.size (nowhere (λ v k. found-route v (omega arith))) (first-is (routeless t) t.size),
      λ e. ordered t m order seats s.placed (λ v k. s.done v (omega arith)) closed,
    )

    module _ (path' : List ℕ) (same : length path' ≡ length path) (l : u < t.size) where
      none_at : has_route t u ≡ false → routeless t u ≡ true
      unfolding routeless
      none_at e = rw e

      pub turning_lost : has_route t u ≡ false → Answered t (Some u) order
      turning_lost e = (
        first_unique (routeless t) t.size (here l (none_at e) found-route) (first-is (routeless t) t.size),
        λ z. absurd (never z),
      )
        where
          never : Some u ≡ None → ⊥
          never z = let no : ◌≡◌ {A = ℕ} 0 1 = cc in omega arith

      module _ (k : ℕ) (c : (k < t.size) × Path t seats u k path') (room : t.size ≤ length path₀) where
        pub turning_ready : Ready t u k m order seats path'
        turning_ready =
            record {
              closed = closed;
              placed = s.placed;
              ahead = c.1;
              node = l;
              room = omega (arith, c.0, same, s.path_same);
            }

        pub turning_more :
            (m' : ℕ) (order' seats' : List ℕ)
            → length order' ≡ length order → length seats' ≡ length seats → Settled t seats u m' order' seats'
            → Turning t before from path₀ (u + 1) m' order' seats' path'
        turning_more m' order' seats' p q z =
            rw (add-one u)
            (record {
              low = l;
              placed = z.placed;
              done = lastly (λ v. 0 < get_or seats' v 0) u (λ v i. z.still v (s.done v i)) z.now;
              order_same = p ∙ s.order_same;
              seats_same = q ∙ s.seats_same;
              path_same = same ∙ s.path_same;
            })
