-- A walk down the order: each node's number is made from its parent's, which is there already. Assumes nothing.
use mathlib.Core.Path.{◌≡◌, refl, sym, ap, ◌∙◌}
use mathlib.Core.Bool.{Bool, true, false}
use mathlib.Core.List.{List}
use Prim.Native.Nat.{ℕ, ◌+◌, ◌<◌, ◌≤◌}
use native.Mathlib.Omega.{arith}
use lib.Dec.{eqb}
use lib.ListN.{length, get_or, set, length-set}
use lib.Seq.{get_or-set_same, get_or-set_other}
use borrow.Author.Tests.{eqb-true, eqb-false}
use Rattle.rows.specs.Count.{row_with}
use Rattle.tree.specs.Tree.{Tree}
use Rattle.survey.specs.Work.{Order, Next}
use Rattle.rows.proofs.Filling.{row_with_lem}

-- the nodes at the first i places have their numbers
pub record Down (t : Tree) (order : List ℕ) (o : Order t order) (f : ℕ → ℕ) (before : List ℕ) (i : ℕ) (row : List ℕ) : Type 0 where
  pub low : i ≤ t.size
  pub room : t.size ≤ length before
  done : (u : ℕ) → u < t.size → o.place u < i → get_or row u 0 ≡ f u
  rest : (k : ℕ) → t.size ≤ k → get_or row k 0 ≡ get_or before k 0
  pub same : length row ≡ length before

module _ (t : Tree) (order : List ℕ) (o : Order t order) (f : ℕ → ℕ) (before : List ℕ) where
  pub down-start : t.size ≤ length before → Down t order o f before 0 before
  down-start l =
      record { low = omega arith; room = l; done = λ u k p. absurd (omega arith); rest = λ k l. refl; same = refl }

  module _ (i : ℕ) (row : List ℕ) (s : Down t order o f before i row) where
    pub down-end : t.size ≤ i → row ≡ row_with f t.size before
    down-end l =
        row_with_lem f t.size before row s.room s.same (λ u k. s.done u k (omega (arith, o.within u k))) s.rest

    module _ (l : i < t.size) where
      pub down_fits : get_or order i 0 < length before
      down_fits = omega (arith, o.node i l, s.room)

      pub down-room : get_or order i 0 < length row
      down-room = omega (arith, down_fits, s.same)

      -- the next node, with its parent's number
      pub down_next : Next t f row (get_or order i 0)
      down_next =
          record {
            room = omega (arith, s.room, s.same);
            node = o.node i l;
            home = o.home (get_or order i 0) (o.node i l);
            up-node = o.closed.up_in (get_or order i 0) (o.node i l);
            up_is =
                λ r. s.done (t.up (get_or order i 0)) (o.closed.up_in (get_or order i 0) (o.node i l))
                (omega (arith, o.above (get_or order i 0) (o.node i l) r, o.here i l));
          }

      pub down-more : (v : ℕ) → v ≡ f (get_or order i 0) → Down t order o f before (i + 1) (set row (get_or order i 0) v)
      down-more v q =
          record {
            low = omega arith;
            room = s.room;
            done = λ u k p. go u k p (eqb u (get_or order i 0)) refl;
            rest = λ k j. get_or-set_other row (get_or order i 0) k v 0 (λ e. absurd (omega (arith, o.node i l))) ∙ s.rest k j;
            same = length-set row (get_or order i 0) v ∙ s.same;
          }
        where
          go : (u : ℕ) → u < t.size → o.place u < i + 1 → (b : Bool) → eqb u (get_or order i 0) ≡ b → get_or (set row (get_or order i 0) v) u 0 ≡ f u
          go u k p true e =
              let same = eqb-true u (get_or order i 0) e in
              rw same (get_or-set_same row (get_or order i 0) v 0 down-room ∙ q)
          go u k p false e =
              let other = eqb-false u (get_or order i 0) e in
              get_or-set_other row (get_or order i 0) u v 0 other ∙ s.done u k (omega (arith, far))
            where
              far : o.place u ≡ i → ⊥
              far z = eqb-false u (get_or order i 0) e (sym (o.there u k) ∙ ap (λ (j : ℕ). get_or order j 0) z)
