-- One node more gets a place: a node that has none, and whose parent has one. Assumes nothing.
use mathlib.Core.Path.{◌≡◌, refl, sym, ap, ◌∙◌}
use mathlib.Core.Bool.{Bool, true, false}
use mathlib.Core.List.{List}
use Prim.Native.Nat.{ℕ, suc, ◌+◌, ◌<◌, ◌≤◌}
use native.Mathlib.Omega.{arith}
use lib.Dec.{eqb}
use lib.ListN.{length, get_or, set, length-set}
use lib.Seq.{get_or-set_same, get_or-set_other}
use borrow.Author.Tests.{eqb-true, eqb-false, eq-eqb, ne_eqb}
use Rattle.rows.specs.Count.{sum_to, only_if}
use Rattle.rows.proofs.Tests.{lastly}
use Rattle.tree.specs.Tree.{Tree, has_route}
use Rattle.tree.proofs.Ways.{hop, way}
use Rattle.tree.proofs.Bounded.{never_cut}
use Rattle.survey.specs.Work.{Closed, free, Placed}
use Rattle.rows.proofs.Counting.{sum_one}

-- a seat after one was given
module _ (seats : List ℕ) (v k : ℕ) (room : v < length seats) where
  pub seat_here : get_or (set seats v k) v 0 ≡ k
  seat_here = get_or-set_same seats v k 0 room

  pub seat_other : (u : ℕ) → (u ≡ v → ⊥) → get_or (set seats v k) u 0 ≡ get_or seats u 0
  seat_other u n = get_or-set_other seats v u k 0 n

  -- what holds of the new seat and of every other seat holds of all
  pub seat_cases : (P : ℕ → ℕ → Type 0) → P v k → ((u : ℕ) → (u ≡ v → ⊥) → P u (get_or seats u 0)) → (u : ℕ) → P u (get_or (set seats v k) u 0)
  seat_cases P p q u = go (eqb u v) refl
    where
      go : (b : Bool) → eqb u v ≡ b → P u (get_or (set seats v k) u 0)
      go true e = rw (eqb-true u v e, seat_here) p
      go false e = rw (seat_other u (λ z. eqb-false u v e z)) (q u (λ z. eqb-false u v e z))

pub free-none : (seats : List ℕ) (u : ℕ) → get_or seats u 0 ≡ 0 → free seats u ≡ 1
unfolding free only_if
free-none seats u e = rw (eq-eqb (get_or seats u 0) 0 e)

pub free_some : (seats : List ℕ) (u : ℕ) → 0 < get_or seats u 0 → free seats u ≡ 0
unfolding free only_if
free_some seats u l = rw (ne_eqb (get_or seats u 0) 0 (λ z. absurd (omega arith)))

pub free-same : (seats after : List ℕ) (u : ℕ) → get_or seats u 0 ≡ get_or after u 0 → free seats u ≡ free after u
unfolding free only_if
free-same seats after u e = rw e

module _ (t : Tree) (closed : Closed t) (m : ℕ) (order seats : List ℕ) (s : Placed t m order seats) (v : ℕ) (l : v < t.size) (none : get_or seats v 0 ≡ 0) where
  seat_room : v < length seats
  seat_room = omega (arith, s.seats_room)

  -- one free seat less
  spent : sum_to (free seats) t.size ≡ sum_to (free (set seats v (suc m))) t.size + 1
  spent =
      sum_one (free seats) (free (set seats v (suc m))) t.size v 1 l
      (omega (arith, free-none seats v none, free_some (set seats v (suc m)) v (omega (arith, seat_here seats v (suc m) seat_room))))
      (λ i j n. free-same seats (set seats v (suc m)) i (sym (seat_other seats v (suc m) seat_room i n)))

  pub place_left : m < t.size
  place_left = omega (arith, spent, s.all)

  order_room : m < length order
  order_room = omega (arith, place_left, s.order_room)

  -- a node that has a place is another one
  other : (u : ℕ) → 0 < get_or seats u 0 → u ≡ v → ⊥
  other u p e = omega (arith, ap (λ (y : ℕ). get_or seats y 0) e)

  module _ (up-there : 0 < get_or seats (t.up v) 0) where
    not_root : v ≡ t.root → ⊥
    not_root e = omega (arith, s.first, ap (λ (y : ℕ). get_or seats y 0) e)

    at : ℕ → ℕ
    at u = get_or (set seats v (suc m)) u 0

    -- a seat that was taken stays
    kept : (u : ℕ) → 0 < get_or seats u 0 → at u ≡ get_or seats u 0
    unfolding at
    kept u p = seat_other seats v (suc m) seat_room u (other u p)

    new : at v ≡ suc m
    unfolding at
    new = seat_here seats v (suc m) seat_room

    by_seat : (P : ℕ → ℕ → Type 0) → P v (suc m) → ((u : ℕ) → (u ≡ v → ⊥) → P u (get_or seats u 0)) → (u : ℕ) → P u (at u)
    unfolding at
    by_seat = seat_cases seats v (suc m) seat_room

    old_order : (i : ℕ) → i < m → get_or (set order m v) i 0 ≡ get_or order i 0
    old_order i k = get_or-set_other order m i v 0 (λ e. absurd (omega arith))

    new_order : get_or (set order m v) m 0 ≡ v
    new_order = get_or-set_same order m v 0 order_room

    pub placed-more : Placed t (suc m) (set order m v) (set seats v (suc m))
    unfolding at
    placed-more =
        record {
          order_room = omega (arith, length-set order m v, s.order_room);
          seats_room = omega (arith, length-set seats v (suc m), s.seats_room);
          all = omega (arith, spent, s.all);
          node = lastly (λ i. get_or (set order m v) i 0 < t.size) m (λ i k. rw (old_order i k) (s.node i k)) (rw new_order l);
          here =
              lastly (λ i. at (get_or (set order m v) i 0) ≡ suc i) m
              (λ i k. rw (old_order i k) (kept (get_or order i 0) (omega (arith, s.here i k)) ∙ s.here i k))
              (rw new_order new);
          within = by_seat (λ u p. u < t.size → p ≤ suc m) (λ k. omega arith) (λ u n k. omega (arith, s.within u k));
          there =
              λ u p. by_seat (λ u q. u < t.size → q ≡ suc p → get_or (set order m v) p 0 ≡ u)
              (λ k e. let same : p ≡ m = omega arith in rw same new_order)
              (λ u n k e. old_order p (omega (arith, s.within u k)) ∙ s.there u p k e) u;
          first = kept t.root (omega (arith, s.first)) ∙ s.first;
          up-placed =
              by_seat (λ u p. u < t.size → (u ≡ t.root → ⊥) → 0 < p → 0 < at (t.up u)) (λ k r p. rw (kept (t.up v) up-there) up-there)
              (λ u n k r p. let q = s.up-placed u k r p in rw (kept (t.up u) q) q);
          above =
              by_seat (λ u p. u < t.size → (u ≡ t.root → ⊥) → 0 < p → at (t.up u) < p)
              (λ k r p. omega (arith, kept (t.up v) up-there, s.within (t.up v) (closed.up_in v l)))
              (λ u n k r p. rw (kept (t.up u) (s.up-placed u k r p)) (s.above u k r p));
          home =
              by_seat (λ u p. u < t.size → 0 < p → has_route t u ≡ true)
              (λ k p. never_cut t closed.up_in (hop (ne_eqb v t.root not_root) (way t (t.up v) (s.home (t.up v) (closed.up_in v l) up-there))) l)
              (λ u n k p. s.home u k p);
        }
