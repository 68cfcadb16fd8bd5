-- The second walk up: what is beside a node, from the two largest that its parent's record still holds. Assumes nothing.
use mathlib.Core.Path.{◌≡◌, refl, sym, subst, ap, ◌∙◌}
use mathlib.Core.Bool.{Bool, true, false, not, ◌&&◌}
use mathlib.Core.List.{List}
use Prim.Native.Nat.{ℕ, suc, ◌<◌, ◌≤◌}
use native.Mathlib.Omega.{arith}
use lib.ListN.{get_or}
use borrow.Author.Tests.{ne_eqb}
use Rattle.rows.specs.Count.{only_if}
use Rattle.rows.proofs.Counting.{max_bound}
use Rattle.tree.specs.Tree.{Tree, dist, under}
use Rattle.survey.specs.declared.Known.{Known}
use Rattle.survey.specs.Known.{aside, beside}
use Rattle.survey.specs.Row.{nodes_in, known_at, put_known}
use Rattle.survey.specs.Work.{Order, Basis, Held, Split, Summed, Sided, without, with_aside, with_beside}
use Rattle.survey.proofs.Holding.{Walk, held_room, held_as, split_up}

-- nothing is beside a node that is its own parent
none_beside : (t : Tree) (x : ℕ) → t.up x ≡ x → aside t x ≡ 0
unfolding aside beside only_if
none_beside t x e = omega (arith, max_bound (λ u. only_if (beside t x u) (dist t u)) t.size 0 (λ u l. rw e (go u (under t x u))))
  where
    go : (u : ℕ) (c : Bool) → only_if (c && not c) (dist t u) ≤ 0
    go u true = omega arith
    go u false = omega arith

module _ (t : Tree) (order : List ℕ) (b : Basis t order) (before : List ℕ) where
  abbrev o : Order t order
  o = b.ordered

  abbrev pub Siding : ℕ → ℕ → Known → Type 0
  Siding = Split (Summed t) (Sided t) o.place

  module _ (i : ℕ) (row : List ℕ) (s : Walk t before 1 (Split (Summed t) (Sided t) o.place) i row) where
    room : (u : ℕ) → u < t.size → u < nodes_in row
    room u l = held_room t.size before (Siding i) row s.held u l

    module _ (next : ℕ) (one : i ≡ suc next) where
      abbrev v : ℕ
      v = get_or order next 0

      below : next < t.size
      below = omega (arith, s.low)

      node_in : v < t.size
      node_in = o.node next below

      pub side_node : get_or order next 0 < nodes_in row
      side_node = room v node_in

      own : Summed t v (known_at row v)
      own = (s.held.each v node_in).below (omega (arith, o.here next below))

      put : (k : Known) → Sided t v k → Held t.size before (Siding next) (put_known row v k)
      put k z = split_up t order o before (Summed t) (Sided t) next row (subst (λ (j : ℕ). Held t.size before (Siding j) row) one s.held) below k z

      module _ (more : 1 ≤ next) where
        far : v ≡ t.root → ⊥
        far z = absurd (omega (arith, o.here next below, o.first, ap o.place z))

        parent_in : t.up v < t.size
        parent_in = o.closed.up_in v node_in

        up_v : (known_at row v).up ≡ t.up v
        up_v = own.up_is

        pub side_up : (known_at row (get_or order next 0)).up < nodes_in row
        side_up = rw up_v (room (t.up v) parent_in)

        parent : Summed t (t.up v) (known_at row (t.up v))
        parent = (s.held.each (t.up v) parent_in).below (omega (arith, o.above v node_in far, o.here next below))

        made : Sided t v (with_beside (known_at row v) (known_at row (t.up v)))
        unfolding with_beside with_aside
        made =
            record {
              up_is = own.up_is;
              near_is = own.near_is;
              count-is = own.count-is;
              base-is = own.base-is;
              turn_is = own.turn_is;
              deep_is = own.deep_is;
              beside-is =
                  ap (without (known_at row (t.up v)).deep (known_at row (t.up v)).beside) own.deep_is
                  ∙ parent.rest-is v node_in (ne_eqb v t.root far) refl;
            }

        pub side_more :
            (after : List ℕ)
            → after ≡ put_known row (get_or order next 0)
            (with_beside (known_at row (get_or order next 0)) (known_at row (known_at row (get_or order next 0)).up))
            → Walk t before 1 (Split (Summed t) (Sided t) o.place) next after
        side_more after e =
            record {
              some = more;
              low = omega (arith, below);
              held =
                  subst (Held t.size before (Siding next))
                  (sym (e ∙ ap (λ (y : ℕ). put_known row v (with_beside (known_at row v) (known_at row y))) up_v))
                  (put _ made);
            }

    -- the root is left
    module _ (last : i ≤ 1) where
      one : i ≡ 1
      one = omega (arith, s.some)

      pub root-node : get_or order 0 0 < nodes_in row
      root-node = side_node 0 one

      root_is : get_or order 0 0 ≡ t.root
      root_is = ap (λ (j : ℕ). get_or order j 0) (sym o.first) ∙ o.there t.root o.closed.root_in

      cleared : Sided t (get_or order 0 0) (with_aside (known_at row (get_or order 0 0)) 0)
      unfolding with_aside
      cleared =
          let z = own 0 one in
          record {
            up_is = z.up_is;
            near_is = z.near_is;
            count-is = z.count-is;
            base-is = z.base-is;
            turn_is = z.turn_is;
            deep_is = z.deep_is;
            beside-is = sym (none_beside t (get_or order 0 0) (ap t.up root_is ∙ b.top ∙ sym root_is));
          }

      pub side_end :
          (after : List ℕ)
          → after ≡ put_known row (get_or order 0 0) (with_aside (known_at row (get_or order 0 0)) 0)
          → Held t.size before (Sided t) after
      side_end after e =
          held_as t.size before (Siding 0) after
          (subst (Held t.size before (Siding 0)) (sym e) (put 0 one _ cleared))
          (Sided t) (λ u l z. z.above (omega arith))
