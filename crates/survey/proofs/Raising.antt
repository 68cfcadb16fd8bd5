-- The walk up: each node's record is added to its parent's. What a record holds then are the sums of what has come to its node, and
-- the two largest; at the end, of all of T(x). Assumes nothing.
use mathlib.Core.Path.{◌≡◌, refl, sym, subst, ap, ap₂, ◌∙◌}
use mathlib.Core.Bool.{true, false, not}
use mathlib.Core.List.{List}
use Prim.Native.Nat.{ℕ, suc, ◌+◌, ◌*◌, ◌<◌, ◌≤◌}
use native.Mathlib.Omega.{arith}
use lib.Dec.{eqb}
use lib.ListN.{length, get_or}
use borrow.Author.Tests.{eqb-false, eq-eqb, ne_eqb}
use native.Mathlib.Nat.{mul-le-mul_right}
use Rattle.edition.specs.Limits.{node_limit, longest}
use Rattle.rows.proofs.Tests.{and_none}
use Rattle.tree.specs.Tree.{Tree, dist}
use Rattle.survey.specs.declared.Known.{Known}
use Rattle.survey.specs.Known.{count, weight, deepest}
use Rattle.survey.specs.Row.{nodes_in, known_at, put_known}
use Rattle.survey.specs.Work.{Order, Basis, Held, Begun, Summed, Adds, with_child, child}
use Rattle.survey.proofs.Holding.{Walk, held_room, held_as, held_put}
use Rattle.survey.proofs.Arriving.{arrived, arrived_small, arrived_start, arrived_end, arrived_up, arrived_else}
use Rattle.survey.proofs.Besides.{child_says}
use Rattle.survey.proofs.Largest.{Two, two-start, two_other, two-more, two-deepest, two-aside}
use Rattle.survey.proofs.Stems.{near_few}

pub record Raised (t : Tree) (place : ℕ → ℕ) (i x : ℕ) (k : Known) : Type 0 where
  up_is : k.up ≡ t.up x
  near_is : k.near ≡ dist t x
  turn_is : k.turn ≡ 0
  count-is : k.count ≡ arrived t place (λ u. 1) i x
  base-is : k.base ≡ arrived t place (dist t) i x
  two : Two t place i x k.deep k.beside

module _ (t : Tree) (order : List ℕ) (b : Basis t order) (before : List ℕ) where
  abbrev o : Order t order
  o = b.ordered

  -- a child comes after its parent
  pub after-parent : (x c : ℕ) → c < t.size → child t x c ≡ true → o.place x < o.place c
  after-parent x c l e =
      let z = child_says t o.home o.closed.up_in x c e in
      omega (arith, o.above c l (eqb-false c t.root z.0), ap o.place z.1)

  pub raise_start : (row : List ℕ) → Held t.size before (Begun t) row → Walk t before 1 (Raised t o.place) (length order) row
  raise_start row s =
      subst (λ (i : ℕ). Walk t before 1 (Raised t o.place) i row) (sym b.nodes)
      (record {
        some = omega (arith, o.closed.root_in);
        low = omega arith;
        held =
            held_as t.size before (Begun t) row s (Raised t o.place t.size)
            (λ u l z.
            record {
              up_is = z.up_is;
              near_is = z.near_is;
              turn_is = z.turn_is;
              count-is = z.count-is ∙ sym (arrived_start t order o (λ u. 1) u l);
              base-is = z.base-is ∙ sym (arrived_start t order o (dist t) u l);
              two = two-start t order o u _ _ z.deep_is z.beside-is;
            });
      })

  module _ (i : ℕ) (row : List ℕ) (s : Walk t before 1 (Raised t o.place) i row) where
    pub raise_end : i ≤ 1 → Held t.size before (Summed t) row
    unfolding count weight
    raise_end l =
        let one : i ≡ 1 = omega (arith, s.some) in
        held_as t.size before (Raised t o.place i) row s.held (Summed t)
        (λ u m z.
        record {
          up_is = z.up_is;
          near_is = z.near_is;
          count-is = z.count-is ∙ ap (λ (j : ℕ). arrived t o.place (λ u. 1) j u) one ∙ arrived_end t order o (λ u. 1) u;
          base-is = z.base-is ∙ ap (λ (j : ℕ). arrived t o.place (dist t) j u) one ∙ arrived_end t order o (dist t) u;
          turn_is = z.turn_is;
          deep_is = two-deepest t order o i u _ _ z.two (λ c k e. omega (arith, after-parent u c k e)) m;
          rest-is =
              λ c k e q. two-aside t order o i c _ _ (subst (λ (x : ℕ). Two t o.place i x (known_at row u).deep (known_at row u).beside) (sym q) z.two)
              (λ y j f. omega (arith, after-parent (t.up c) y j f)) k e;
        })

    module _ (next : ℕ) (one : i ≡ suc next) (more : 1 ≤ next) where
      abbrev v : ℕ
      v = get_or order next 0

      abbrev p : ℕ
      p = t.up (get_or order next 0)

      below : next < t.size
      below = omega (arith, s.low)

      node_in : v < t.size
      node_in = o.node next below

      parent_in : p < t.size
      parent_in = o.closed.up_in v node_in

      far : v ≡ t.root → ⊥
      far z = absurd (omega (arith, o.here next below, o.first, ap o.place z))

      now : Held t.size before (Raised t o.place (suc next)) row
      now = subst (λ (j : ℕ). Held t.size before (Raised t o.place j) row) one s.held

      up_v : (known_at row v).up ≡ p
      up_v = (now.each v node_in).up_is

      room : (u : ℕ) → u < t.size → u < nodes_in row
      room u l = held_room t.size before (Raised t o.place (suc next)) row now u l

      count_small : (u : ℕ) → u < t.size → (known_at row u).count ≤ node_limit
      count_small u l =
          omega (arith, (now.each u l).count-is, arrived_small t o.place (λ u. 1) (suc next) u 1 (λ u. omega arith), o.closed.few)

      base-small : (u : ℕ) → u < t.size → (known_at row u).base ≤ node_limit * (node_limit * longest)
      base-small u l =
          omega (
            arith,
            (now.each u l).base-is,
            arrived_small t o.place (dist t) (suc next) u (node_limit * longest) (near_few t o.closed.few b.short),
            mul-le-mul_right (node_limit * longest) o.closed.few,
          )

      pub raise_adds : Adds row (get_or order next 0)
      raise_adds =
          record {
            node = room v node_in;
            up-node = rw up_v (room p parent_in);
            count_fits = rw up_v (omega (arith, count_small p parent_in, count_small v node_in));
            base-fits = rw up_v (omega (arith, base-small p parent_in, base-small v node_in));
          }

      kin : child t p v ≡ true
      unfolding child
      kin = rw (ne_eqb v t.root far, eq-eqb p p refl)

      other : (u : ℕ) → (u ≡ p → ⊥) → child t u v ≡ false
      unfolding child
      other u n = rw (ne_eqb p u (λ z. n (sym z))) (and_none (not (eqb v t.root)))

      deep_v : (known_at row v).deep ≡ deepest t v
      deep_v =
          two-deepest t order o (suc next) v _ _ (now.each v node_in).two
          (λ c k e. omega (arith, after-parent v c k e, o.here next below)) node_in

      joined : Raised t o.place next p (with_child (known_at row p) (known_at row v))
      unfolding with_child
      joined =
          let a = now.each p parent_in in
          let z = now.each v node_in in
          record {
            up_is = a.up_is;
            near_is = a.near_is;
            turn_is = a.turn_is;
            count-is = ap₂ ◌+◌ a.count-is z.count-is ∙ sym (arrived_up t order o (λ u. 1) next below far);
            base-is = ap₂ ◌+◌ a.base-is z.base-is ∙ sym (arrived_up t order o (dist t) next below far);
            two = two-more t order o next below p _ _ a.two kin (known_at row v).deep deep_v;
          }

      put : Held t.size before (Raised t o.place next) (put_known row p (with_child (known_at row p) (known_at row v)))
      put =
          held_put t.size before (Raised t o.place (suc next)) row now (Raised t o.place next) p _ parent_in joined
          (λ u m n z.
          record {
            up_is = z.up_is;
            near_is = z.near_is;
            turn_is = z.turn_is;
            count-is = z.count-is ∙ sym (arrived_else t order o (λ u. 1) next below far u n);
            base-is = z.base-is ∙ sym (arrived_else t order o (dist t) next below far u n);
            two = two_other t order o next below u _ _ z.two (other u n);
          })

      pub raise_more :
          (after : List ℕ)
          → after ≡ put_known row (known_at row (get_or order next 0)).up
          (with_child (known_at row (known_at row (get_or order next 0)).up) (known_at row (get_or order next 0)))
          → Walk t before 1 (Raised t o.place) next after
      raise_more after e =
          record {
            some = more;
            low = omega (arith, below);
            held =
                subst (Held t.size before (Raised t o.place next))
                (sym (e ∙ ap (λ (y : ℕ). put_known row y (with_child (known_at row y) (known_at row v))) up_v)) put;
          }
