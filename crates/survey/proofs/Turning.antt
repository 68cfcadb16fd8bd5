-- The last walk, down: the two numbers by which a sum is known, from the turn of the parent, which is there already.
-- Assumes nothing.
use mathlib.Core.Path.{◌≡◌, sym, subst, ap, ap₂, ◌∙◌}
use mathlib.Core.Bool.{false}
use mathlib.Core.List.{List}
use Prim.Native.Nat.{ℕ, ◌+◌, ◌*◌, ◌-◌, ◌<◌, ◌≤◌}
use native.Mathlib.Omega.{arith}
use lib.Dec.{eqb}
use lib.ListN.{length, get_or}
use borrow.Author.Tests.{ne_eqb}
use Rattle.tree.specs.Tree.{Tree, dist}
use Rattle.survey.specs.declared.Known.{Known}
use Rattle.survey.specs.Known.{count, turn, base, known}
use Rattle.survey.specs.Row.{nodes_in, known_at, put_known}
use Rattle.survey.specs.Work.{Order, Basis, Held, Split, Sided, Told, Turns, turned, with_turn}
use Rattle.survey.proofs.Holding.{Walk, held_room, held_as, split_down}
use Rattle.survey.proofs.Stems.{near_up, turn_step, base-turn, turn-top, base-top, product_few, turn-few, weight-few}

known_near : (t : Tree) (x : ℕ) (k : Known) → k ≡ known t x → k.near ≡ dist t x
unfolding known
known_near t x k e = ap (λ (a : Known). a.near) e

known-turn : (t : Tree) (x : ℕ) (k : Known) → k ≡ known t x → k.turn ≡ turn t x
unfolding known
known-turn t x k e = ap (λ (a : Known). a.turn) e

-- all but the two numbers, and these
sided_known : (t : Tree) (x : ℕ) (k : Known) → Sided t x k → (b r : ℕ) → b ≡ base t x → r ≡ turn t x →
    ◌≡◌ {A = Known}
    (record { up = k.up; near = k.near; count = k.count; base = b; turn = r; deep = k.deep; beside = k.beside })
    (known t x)
unfolding known
sided_known t x k s b r p q =
    λ i.
    record {
      up = s.up_is i;
      near = s.near_is i;
      count = s.count-is i;
      base = p i;
      turn = q i;
      deep = s.deep_is i;
      beside = s.beside-is i;
    }

module _ (t : Tree) (order : List ℕ) (b : Basis t order) (before : List ℕ) where
  abbrev o : Order t order
  o = b.ordered

  abbrev pub Turning : ℕ → ℕ → Known → Type 0
  Turning = Split (Told t) (Sided t) o.place

  -- the root's record is whole
  root_told : (k : Known) → Sided t t.root k → k ≡ known t t.root
  root_told k s =
      let home = o.home t.root o.closed.root_in in
      sided_known t t.root k s k.base k.turn
      (s.base-is ∙ sym (base-top t b.top b.flat home))
      (s.turn_is ∙ sym (turn-top t b.top b.flat home))

  pub turn-start : (row : List ℕ) → Held t.size before (Sided t) row → Walk t before 1 (Split (Told t) (Sided t) o.place) 1 row
  turn-start row s =
      record {
        some = omega arith;
        low = omega (arith, o.closed.root_in);
        held =
            held_as t.size before (Sided t) row s (Turning 1)
            (λ u l z. record { below = λ h. record { is = first u l z h }; above = λ h. z });
      }
    where
      first : (u : ℕ) → u < t.size → Sided t u (known_at row u) → o.place u < 1 → known_at row u ≡ known t u
      first u l z h =
          let zero : o.place u ≡ 0 = omega arith in
          let top : u ≡ t.root = sym (o.there u l) ∙ ap (λ (j : ℕ). get_or order j 0) (zero ∙ sym o.first) ∙ o.there t.root o.closed.root_in in
          subst (λ (y : ℕ). known_at row u ≡ known t y) (sym top) (root_told (known_at row u) (subst (λ (y : ℕ). Sided t y (known_at row u)) top z))

  module _ (i : ℕ) (row : List ℕ) (s : Walk t before 1 (Split (Told t) (Sided t) o.place) i row) where
    pub turn_end : length order ≤ i → Held t.size before (Told t) row
    turn_end l =
        held_as t.size before (Turning i) row s.held (Told t) (λ u m z. z.below (omega (arith, o.within u m, b.nodes)))

    module _ (l : i < length order) where
      abbrev v : ℕ
      v = get_or order i 0

      below : i < t.size
      below = omega (arith, b.nodes)

      node_in : v < t.size
      node_in = o.node i below

      parent_in : t.up v < t.size
      parent_in = o.closed.up_in v node_in

      far : v ≡ t.root → ⊥
      far z = absurd (omega (arith, o.here i below, o.first, ap o.place z, s.some))

      off : eqb v t.root ≡ false
      off = ne_eqb v t.root far

      room : (u : ℕ) → u < t.size → u < nodes_in row
      room u m = held_room t.size before (Turning i) row s.held u m

      pub turn-node : get_or order i 0 < nodes_in row
      turn-node = room v node_in

      own : Sided t v (known_at row v)
      own = (s.held.each v node_in).above (omega (arith, o.here i below))

      up_v : (known_at row v).up ≡ t.up v
      up_v = own.up_is

      pub turn_up : (known_at row (get_or order i 0)).up < nodes_in row
      turn_up = rw up_v (room (t.up v) parent_in)

      parent : known_at row (t.up v) ≡ known t (t.up v)
      parent = ((s.held.each (t.up v) parent_in).below (omega (arith, o.above v node_in far, o.here i below))).is

      abbrev kv : Known
      kv = known_at row v

      abbrev kp : Known
      kp = known_at row (t.up v)

      near_v : kv.near ≡ dist t v
      near_v = own.near_is

      near_p : kp.near ≡ dist t (t.up v)
      near_p = known_near t (t.up v) kp parent

      turn_p : kp.turn ≡ turn t (t.up v)
      turn_p = known-turn t (t.up v) kp parent

      more-is : kv.count * (kv.near - kp.near) ≡ count t v * (dist t v - dist t (t.up v))
      more-is = ap₂ ◌*◌ own.count-is (ap₂ ◌-◌ near_v near_p)

      less_is : kv.count * kv.near ≡ count t v * dist t v
      less_is = ap₂ ◌*◌ own.count-is near_v

      step : turn t (t.up v) + 2 * (count t v * (dist t v - dist t (t.up v))) ≡ turn t v
      step = turn_step t o.home v (o.home v node_in) off

      turned-is : turned kv kp ≡ turn t v
      unfolding turned
      turned-is = omega (arith, turn_p, more-is, step)

      fits : Turns kv kp
      fits =
          let most = turn-few t o.closed.few b.short v in
          record {
            near_low = omega (arith, near_v, near_p, near_up t o.home v (o.home v node_in) off);
            more-fits = omega (arith, more-is, step, most);
            turn-fits = omega (arith, turn_p, more-is, step, most);
            less_fits = omega (arith, less_is, product_few t o.closed.few b.short v v);
            sum_fits = omega (arith, turned-is, most, own.base-is, weight-few t o.closed.few b.short v);
            enough = omega (arith, less_is, turned-is, own.base-is, base-turn t v);
          }

      pub turn-fits : Turns (known_at row (get_or order i 0)) (known_at row (known_at row (get_or order i 0)).up)
      turn-fits = subst (λ (y : ℕ). Turns kv (known_at row y)) (sym up_v) fits

      made : with_turn kv kp ≡ known t v
      unfolding with_turn
      made =
          sided_known t v kv own (kv.base + turned kv kp - 2 * (kv.count * kv.near)) (turned kv kp)
          (omega (arith, less_is, turned-is, own.base-is, base-turn t v)) turned-is

      pub turn_more :
          (after : List ℕ)
          → after ≡ put_known row (get_or order i 0)
          (with_turn (known_at row (get_or order i 0)) (known_at row (known_at row (get_or order i 0)).up))
          → Walk t before 1 (Split (Told t) (Sided t) o.place) (i + 1) after
      turn_more after e =
          record {
            some = omega arith;
            low = omega (arith, below);
            held =
                subst (Held t.size before (Turning (i + 1)))
                (sym (e ∙ ap (λ (y : ℕ). put_known row v (with_turn kv (known_at row y))) up_v))
                (split_down t order o before (Told t) (Sided t) i row s.held below _ (record { is = made }));
          }
