-- The root alone has a place. Assumes nothing.
use mathlib.Core.Path.{◌≡◌, refl, sym}
use mathlib.Core.Bool.{true}
use mathlib.Core.List.{List}
use Prim.Native.Nat.{ℕ, suc, ◌+◌, ◌<◌, ◌≤◌}
use native.Mathlib.Omega.{arith}
use lib.ListN.{length, get_or, set, length-set, replicate, length-replicate, get_or-replicate}
use lib.Seq.{get_or-set_same}
use borrow.Author.Tests.{eq-eqb}
use Rattle.edition.specs.Limits.{node_limit}
use Rattle.rows.specs.Count.{sum_to}
use Rattle.tree.specs.Tree.{Tree, has_route}
use Rattle.tree.proofs.Ways.{top}
use Rattle.tree.proofs.Bounded.{never_cut}
use Rattle.survey.specs.Work.{Closed, free, Placed, Fresh}
use Rattle.rows.proofs.Counting.{sum_one, sum_ones}
use Rattle.survey.proofs.Placing.{seat_here, seat_other, seat_cases, free-none, free_some, free-same}

module _ (t : Tree) (closed : Closed t) (order seats : List ℕ) (order_room : t.size ≤ length order)
    (seats_room : t.size ≤ length seats) (clear : (u : ℕ) → u < t.size → get_or seats u 0 ≡ 0) where
  room : t.root < length seats
  room = omega (arith, closed.root_in)

  root_seat : get_or (set seats t.root 1) t.root 0 ≡ 1
  root_seat = seat_here seats t.root 1 room

  by_seat : (P : ℕ → ℕ → Type 0) → P t.root 1 → ((u : ℕ) → (u ≡ t.root → ⊥) → P u (get_or seats u 0)) → (u : ℕ) → P u (get_or (set seats t.root 1) u 0)
  by_seat = seat_cases seats t.root 1 room

  first-place : get_or (set order 0 t.root) 0 0 ≡ t.root
  first-place = get_or-set_same order 0 t.root 0 (omega (arith, closed.root_in))

  spent : sum_to (free seats) t.size ≡ sum_to (free (set seats t.root 1)) t.size + 1
  spent =
      sum_one (free seats) (free (set seats t.root 1)) t.size t.root 1 closed.root_in
      (omega (arith, free-none seats t.root (clear t.root closed.root_in), free_some (set seats t.root 1) t.root (omega (arith, root_seat))))
      (λ i j n. free-same seats (set seats t.root 1) i (sym (seat_other seats t.root 1 room i n)))

  only : (i : ℕ) → i < 1 → i ≡ 0
  only i l = omega arith

  pub placed-start : Placed t 1 (set order 0 t.root) (set seats t.root 1)
  placed-start =
      record {
        order_room = omega (arith, length-set order 0 t.root);
        seats_room = omega (arith, length-set seats t.root 1);
        all = omega (arith, spent, sum_ones (free seats) t.size (λ u l. free-none seats u (clear u l)));
        node = λ i l. rw (only i l, first-place) closed.root_in;
        here = λ i l. rw (only i l, first-place) root_seat;
        within = by_seat (λ u p. u < t.size → p ≤ 1) (λ l. omega arith) (λ u n l. omega (arith, clear u l));
        there =
            λ u p. by_seat (λ u q. u < t.size → q ≡ suc p → get_or (set order 0 t.root) p 0 ≡ u)
            (λ l e. let none : p ≡ 0 = omega arith in rw none first-place)
            (λ u n l e. absurd (omega (arith, clear u l))) u;
        first = root_seat;
        up-placed =
            by_seat (λ u p. u < t.size → (u ≡ t.root → ⊥) → 0 < p → 0 < get_or (set seats t.root 1) (t.up u) 0)
            (λ l r p. absurd (r refl))
            (λ u n l r p. absurd (omega (arith, clear u l)));
        above =
            by_seat (λ u p. u < t.size → (u ≡ t.root → ⊥) → 0 < p → get_or (set seats t.root 1) (t.up u) 0 < p)
            (λ l r p. absurd (r refl))
            (λ u n l r p. absurd (omega (arith, clear u l)));
        home =
            by_seat (λ u p. u < t.size → 0 < p → has_route t u ≡ true)
            (λ l p. never_cut t closed.up_in (top (eq-eqb t.root t.root refl)) l)
            (λ u n l p. absurd (omega (arith, clear u l)));
      }

-- in the words of the code
pub begun :
    (root : ℕ) (order seats : List ℕ) (t : Tree)
    → Fresh t root order seats → Placed t 1 (set order 0 root) (set seats root 1)
begun root order seats t f =
    rw (← f.root_is) (placed-start t f.closed order seats f.order_room f.seats_room f.none)

-- rows of zeros, as long as memory holds
pub fresh :
    (t : Tree) (root : ℕ) (order : List ℕ)
    → Closed t → t.root ≡ root → t.size ≤ length order → Fresh t root order (replicate node_limit 0)
fresh t root order closed e room =
    record {
      closed = closed;
      root_is = e;
      order_room = room;
      seats_room = omega (arith, closed.few, length-replicate {A = ℕ} node_limit 0);
      none = λ u l. get_or-replicate {A = ℕ} node_limit u 0 0 (omega (arith, closed.few));
    }
