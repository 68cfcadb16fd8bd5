-- The nodes of a path get places, the last one first. Assumes nothing.
use mathlib.Core.Path.{◌≡◌, refl, subst, ap, ◌∙◌}
use mathlib.Core.List.{List}
use Prim.Native.Nat.{ℕ, zero, suc, ◌+◌, ◌<◌, ◌≤◌}
use native.Mathlib.Numerals.{add-one}
use native.Mathlib.Omega.{arith}
use lib.ListN.{length, get_or, set, length-set}
use Rattle.tree.specs.Tree.{Tree}
use Rattle.survey.specs.Work.{Closed, up_by, Placed, Path, Ready, Settled}
use Rattle.survey.proofs.Placing.{seat_here, seat_other, seat_cases, place_left, placed-more}

pub up-inside : (t : Tree) → Closed t → (u : ℕ) → u < t.size → (k : ℕ) → up_by t k u < t.size
unfolding up_by
up-inside t closed u l zero = l
up-inside t closed u l (suc k) = closed.up_in _ (up-inside t closed u l k)

pub record Settling (t : Tree) (before : List ℕ) (from : List ℕ) (u k : ℕ) (path : List ℕ) (left m : ℕ) (order seats : List ℕ) : Type 0 where
  pub low : left ≤ k
  pub placed : Placed t m order seats
  pub ahead : Path t seats u left path
  pub still : (v : ℕ) → 0 < get_or from v 0 → 0 < get_or seats v 0
  pub order_same : length order ≡ length before
  pub seats_same : length seats ≡ length from

module _ (t : Tree) (u k : ℕ) (before from path : List ℕ) (m₀ : ℕ) (r : Ready t u k m₀ before from path) where
  module _ (left m : ℕ) (order seats : List ℕ) (s : Settling t before from u k path left m order seats) where
    pub settling_end : left ≡ 0 → (last : ℕ) → last ≡ m → Settled t from u last order seats
    unfolding up_by
    settling_end z last e =
        rw e
        record { placed = s.placed; now = subst (λ (j : ℕ). 0 < get_or seats (up_by t j u) 0) z s.ahead.end; still = s.still }

    module _ (next : ℕ) (one : left ≡ suc next) where
      -- the node that is next
      at_next : get_or path next 0 ≡ up_by t next u
      at_next = s.ahead.on next (omega arith)

      pub next_in : get_or path next 0 < t.size
      next_in = rw at_next (up-inside t r.closed u r.node next)

      seat_none : get_or seats (get_or path next 0) 0 ≡ 0
      seat_none = rw at_next (s.ahead.free next (omega arith))

      pub next_seat : get_or path next 0 < length seats
      next_seat = omega (arith, next_in, s.placed.seats_room)

      pub next_place : m < t.size
      next_place = place_left t r.closed m order seats s.placed (get_or path next 0) next_in seat_none

      pub next_order : m < length order
      next_order = omega (arith, next_place, s.placed.order_room)

      above_next : t.up (get_or path next 0) ≡ up_by t left u
      unfolding up_by
      above_next = rw (at_next, one) refl

      -- no node further down is the same: its parent would have a place
      apart : (j : ℕ) → j < next → up_by t j u ≡ get_or path next 0 → ⊥
      unfolding up_by
      apart j i e =
          let same : up_by t (suc j) u ≡ up_by t left u = ap t.up e ∙ above_next in
          omega (arith, s.ahead.free (suc j) (omega arith), s.ahead.end, ap (λ (y : ℕ). get_or seats y 0) same)

      after : List ℕ
      after = set seats (get_or path next 0) (suc m)

      ahead_next : Path t after u next path
      unfolding after
      ahead_next =
          record {
            on = λ j i. s.ahead.on j (omega arith);
            free = λ j i. seat_other seats (get_or path next 0) (suc m) next_seat (up_by t j u) (apart j i) ∙ s.ahead.free j (omega arith);
            end = rw (← at_next, seat_here seats (get_or path next 0) (suc m) next_seat) (omega arith);
          }

      pub settling_more :
          (fewer more : ℕ)
          → fewer ≡ next → more ≡ m + 1
          → Settling t before from u k path fewer more (set order m (get_or path next 0)) (set seats (get_or path next 0) (m + 1))
      unfolding after
      settling_more fewer more e f =
          rw (e, f, add-one m)
          (record {
            low = omega (arith, s.low);
            placed = placed-more t r.closed m order seats s.placed (get_or path next 0) next_in seat_none (rw above_next s.ahead.end);
            ahead = ahead_next;
            still =
                λ v. seat_cases seats (get_or path next 0) (suc m) next_seat (λ v p. 0 < get_or from v 0 → 0 < p)
                (λ z. omega arith) (λ v n z. s.still v z) v;
            order_same = length-set order m (get_or path next 0) ∙ s.order_same;
            seats_same = length-set seats (get_or path next 0) (suc m) ∙ s.seats_same;
          })
