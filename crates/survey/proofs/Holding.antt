-- A row of a record a node, of which each says something: one that is put says what it was made of, and the others stay; and a walk
-- along an order, down or up, that puts each record once. Assumes nothing.
use mathlib.Core.Path.{◌≡◌, refl, sym, subst, ap, ap₂, ◌∙◌}
use mathlib.Core.Bool.{Bool, true, false}
use mathlib.Core.List.{List, [], ◌∷◌, ◌++◌}
use Prim.Native.Nat.{ℕ, suc, ◌+◌, ◌/◌, ◌<◌, ◌≤◌}
use native.Mathlib.Omega.{arith}
use lib.Dec.{eqb}
use lib.ListN.{length, get_or}
use borrow.Author.Tests.{eqb-true, eqb-false}
use Rattle.rows.specs.Count.{rows_to}
use Rattle.rows.specs.Records.{record_in}
use Rattle.rows.proofs.Put.{record-size, row_records}
use Rattle.rows.proofs.Records.{rows_cong}
use Rattle.tree.specs.Tree.{Tree}
use Rattle.survey.specs.declared.Known.{Known}
use Rattle.survey.specs.Row.{known_width, nodes_in, known_row, known_from, known_at, put_known, past_known}
use Rattle.survey.specs.Work.{Order, Held, Split}
use Rattle.survey.proofs.Records.{put_length, put_back, put_kept, put_past}

-- a record's numbers are what they say
row_back : (r : List ℕ) → length r ≡ known_width → known_row (known_from r) ≡ r
unfolding known_row known_from
row_back [] h = absurd (omega arith)
row_back (a ∷ []) h = absurd (omega arith)
row_back (a ∷ b ∷ []) h = absurd (omega arith)
row_back (a ∷ b ∷ c ∷ []) h = absurd (omega arith)
row_back (a ∷ b ∷ c ∷ d ∷ []) h = absurd (omega arith)
row_back (a ∷ b ∷ c ∷ d ∷ e ∷ []) h = absurd (omega arith)
row_back (a ∷ b ∷ c ∷ d ∷ e ∷ f ∷ []) h = absurd (omega arith)
row_back (a ∷ b ∷ c ∷ d ∷ e ∷ f ∷ g ∷ []) h = refl
row_back (a ∷ b ∷ c ∷ d ∷ e ∷ f ∷ g ∷ i ∷ r) h = absurd (omega arith)

module _ (n : ℕ) (before : List ℕ) where
  module _ (P : ℕ → Known → Type 0) where
    module _ (row : List ℕ) (s : Held n before P row) where
      pub held_room : (u : ℕ) → u < n → u < nodes_in row
      held_room u l = omega (arith, s.room, ap (λ (k : ℕ). k / known_width) s.same)

      pub held_as : (Q : ℕ → Known → Type 0) → ((u : ℕ) → u < n → P u (known_at row u) → Q u (known_at row u)) → Held n before Q row
      held_as Q h = record { room = s.room; same = s.same; past = s.past; each = λ u l. h u l (s.each u l) }

      pub held_put :
          (Q : ℕ → Known → Type 0) (y : ℕ) (k : Known)
          → y < n → Q y k → ((u : ℕ) → u < n → (u ≡ y → ⊥) → P u (known_at row u) → Q u (known_at row u))
          → Held n before Q (put_known row y k)
      held_put Q y k l q rest =
          record {
            room = s.room;
            same = put_length row y k ∙ s.same;
            past = put_past row y k n l ∙ s.past;
            each = λ u m. go u m (eqb u y) refl;
          }
        where
          go : (u : ℕ) → u < n → (b : Bool) → eqb u y ≡ b → Q u (known_at (put_known row y k) u)
          go u m true e =
              subst (λ (z : ℕ). Q z (known_at (put_known row y k) z)) (sym (eqb-true u y e))
              (subst (Q y) (sym (put_back row y k (held_room y l))) q)
          go u m false e =
              let other = eqb-false u y e in
              subst (Q u) (sym (put_kept row y k u other)) (rest u m other (s.each u m))

  -- where each record is known, the row is
  pub held_end :
      (f : ℕ → Known) (row : List ℕ)
      → Held n before (λ u k. k ≡ f u) row → row ≡ rows_to (λ x. known_row (f x)) n ++ past_known n before
  unfolding known_at past_known
  held_end f row s =
      row_records known_width row n (omega (arith, s.room, ap (λ (k : ℕ). k / known_width) s.same))
      ∙ ap₂ (λ (a b : List ℕ). a ++ b)
      (rows_cong (record_in known_width row) (λ x. known_row (f x)) n
      (λ x l. sym (row_back (record_in known_width row x) (record-size known_width row x (there x l))) ∙ ap known_row (s.each x l)))
      s.past
    where
      there : (x : ℕ) → x < n → x < nodes_in row
      there x l = held_room (λ u k. k ≡ f u) row s x l

-- a walk over the records that has come to place i, which is not below a first place
pub record Walk (t : Tree) (before : List ℕ) (start : ℕ) (P : ℕ → ℕ → Known → Type 0) (i : ℕ) (row : List ℕ) : Type 0 where
  pub some : start ≤ i
  pub low : i ≤ t.size
  pub held : Held t.size before (P i) row

module _ (t : Tree) (order : List ℕ) (o : Order t order) (before : List ℕ) (P Q : ℕ → Known → Type 0) where
  -- another node is at another place
  pub elsewhere : (i u : ℕ) → u < t.size → (u ≡ get_or order i 0 → ⊥) → o.place u ≡ i → ⊥
  elsewhere i u k n z = n (sym (o.there u k) ∙ ap (λ (j : ℕ). get_or order j 0) z)

  -- the node at place i is put, in a walk down or up
  pub split_down :
      (i : ℕ) (row : List ℕ)
      → Held t.size before (Split P Q o.place i) row → i < t.size → (k : Known) → P (get_or order i 0) k
      → Held t.size before (Split P Q o.place (i + 1)) (put_known row (get_or order i 0) k)
  split_down i row s l k p =
      held_put t.size before (Split P Q o.place i) row s (Split P Q o.place (i + 1)) (get_or order i 0) k (o.node i l)
      (record { below = λ h. p; above = λ h. absurd (omega (arith, o.here i l)) })
      (λ u m n z. record { below = λ h. z.below (omega (arith, elsewhere i u m n)); above = λ h. z.above (omega arith) })

  pub split_up :
      (next : ℕ) (row : List ℕ)
      → Held t.size before (Split P Q o.place (suc next)) row → next < t.size → (k : Known) → Q (get_or order next 0) k
      → Held t.size before (Split P Q o.place next) (put_known row (get_or order next 0) k)
  split_up next row s l k q =
      held_put t.size before (Split P Q o.place (suc next)) row s (Split P Q o.place next) (get_or order next 0) k (o.node next l)
      (record { below = λ h. absurd (omega (arith, o.here next l)); above = λ h. q })
      (λ u m n z. record { below = λ h. z.below (omega arith); above = λ h. z.above (omega (arith, elsewhere next u m n)) })
