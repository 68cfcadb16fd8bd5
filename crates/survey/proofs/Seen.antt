-- How far up a number has come in a walk up the order: along the route to the first node whose place is below i. When node v at
-- place i is passed on to its parent, what had come to v comes to the parent, and nothing else changes. Assumes nothing.
use mathlib.Core.Path.{◌≡◌, refl, sym, ap, ◌∙◌}
use mathlib.Core.Bool.{Bool, true, false, cond, ◌&&◌, ◌||◌}
use mathlib.Core.List.{List, [], ◌∷◌}
use Prim.Native.Nat.{ℕ, suc, ◌<◌, ◌≤◌}
use native.Mathlib.Omega.{arith}
use lib.Dec.{eqb, ltb}
use lib.ListN.{get_or}
use borrow.Author.Tests.{eqb-true, eqb-false, eq-eqb, ne_eqb, ltb-true, ltb-false, lt-ltb, le-ltb}
use Rattle.rows.specs.Lists.{has}
use Rattle.rows.proofs.Tests.{clash, either, or_none}
use Rattle.tree.specs.Tree.{Tree}
use Rattle.tree.proofs.Ways.{Way, top, hop, way_head}
use Rattle.survey.specs.Work.{Order}

-- a list up to the first whose place is below i, which is the last
pub seen : (ℕ → ℕ) → ℕ → List ℕ → List ℕ
seen place i [] = []
seen place i (u ∷ r) = let rest = seen place i r in u ∷ cond (ltb (place u) i) [] rest

-- tests as they come
only_first : (a b c : Bool) → c ≡ false → (a || false) ≡ (a || false || (b && (c || false)))
only_first true b c h = refl
only_first false true c h = rw h
only_first false false c h = refl

first_two : (a b c : Bool) → c ≡ true → (a || (b || false)) ≡ (a || false || (b && (c || false)))
first_two true b c h = refl
first_two false true c h = rw h
first_two false false c h = refl

further : (a h s b c v : Bool) → c ≡ false → h ≡ (s || (b && v)) → (a || h) ≡ (a || s || (b && (c || v)))
further true h s b c v n e = refl
further false h s b c v n e = rw (n, e)

module _ (t : Tree) (order : List ℕ) (o : Order t order) where
  seen_short : (i u : ℕ) (r : List ℕ) → o.place u < i → seen o.place i (u ∷ r) ≡ u ∷ []
  unfolding seen
  seen_short i u r l = rw (lt-ltb (o.place u) i l)

  seen_long : (i u : ℕ) (r : List ℕ) → i ≤ o.place u → seen o.place i (u ∷ r) ≡ u ∷ seen o.place i r
  unfolding seen
  seen_long i u r l = rw (le-ltb (o.place u) i l)

  seen_one : (i u : ℕ) → seen o.place i (u ∷ []) ≡ u ∷ []
  unfolding seen
  seen_one i u = go (ltb (o.place u) i) refl
    where
      go : (b : Bool) → ltb (o.place u) i ≡ b → seen o.place i (u ∷ []) ≡ u ∷ []
      go true e = rw e
      go false e = rw e

  -- at first every number is at its own node
  pub seen_start : {u : ℕ} {r : List ℕ} → Way t u r → u < t.size → (x : ℕ) → has x (seen o.place t.size r) ≡ eqb u x
  unfolding has
  seen_start {u} {r} w l x =
      let z = way_head t w in
      rw (z.1, seen_short t.size u z.0 (o.within u l)) (or_none (eqb u x))

  -- only the root is at the first place
  later : (u : ℕ) → u < t.size → eqb u t.root ≡ false → 1 ≤ o.place u
  later u l e = go (eqb (o.place u) 0) refl
    where
      go : (b : Bool) → eqb (o.place u) 0 ≡ b → 1 ≤ o.place u
      go true z =
          let same = eqb-true (o.place u) 0 z ∙ sym o.first in
          absurd (eqb-false u t.root e (sym (o.there u l) ∙ ap (λ (i : ℕ). get_or order i 0) same ∙ o.there t.root o.closed.root_in))
      go false z = let some = eqb-false (o.place u) 0 z in omega arith

  -- at last every number has gone its whole route
  pub seen_end : {u : ℕ} {r : List ℕ} → Way t u r → u < t.size → seen o.place 1 r ≡ r
  seen_end (top {u} e) l = seen_one 1 u
  seen_end (hop {u} {r} e w) l =
      seen_long 1 u r (later u l e) ∙ ap (λ (s : List ℕ). u ∷ s) (seen_end w (o.closed.up_in u l))

  module _ (next : ℕ) (l : next < t.size) (far : get_or order next 0 ≡ t.root → ⊥) where
    abbrev v : ℕ
    v = get_or order next 0

    v_place : o.place v ≡ next
    v_place = o.here next l

    p_place : o.place (t.up v) < next
    p_place = omega (arith, o.above (get_or order next 0) (o.node next l) far, o.here next l)

    -- another node is at another place
    other : (u : ℕ) → u < t.size → eqb u v ≡ false → o.place u ≡ next → ⊥
    other u k e z = eqb-false u v e (sym (o.there u k) ∙ ap (λ (i : ℕ). get_or order i 0) z)

    -- of a list: what comes to x now had come to x, or to v, and x is the parent of v
    abbrev Moved : ℕ → List ℕ → Type 0
    Moved x r =
        has x (seen o.place next r) ≡ (has x (seen o.place (suc next) r) || (eqb (t.up v) x && has v (seen o.place (suc next) r)))

    pub seen_more : {u : ℕ} {r : List ℕ} → Way t u r → u < t.size → (x : ℕ) → Moved x r
    unfolding has
    seen_more (top {u} e) k x =
        rw (seen_one next u, seen_one (suc next) u)
        (only_first (eqb u x) (eqb (t.up v) x) (eqb u v) (ne_eqb u v (λ z. far' (sym z ∙ eqb-true u t.root e))))
      where
        far' : v ≡ t.root → ⊥
        far' z = far z
    seen_more (hop {u} {r} e w) k x = go (seen_more w (o.closed.up_in u k) x) (eqb u v) refl
      where
        short : o.place u < next → eqb u v ≡ false → Moved x (u ∷ r)
        short i n =
            rw (seen_short next u r i, seen_short (suc next) u r (omega arith))
            (only_first (eqb u x) (eqb (t.up v) x) (eqb u v) n)

        long : Moved x r → suc next ≤ o.place u → eqb u v ≡ false → Moved x (u ∷ r)
        long ih i n =
            rw (seen_long next u r (omega arith), seen_long (suc next) u r i)
            (further (eqb u x) (has x (seen o.place next r)) (has x (seen o.place (suc next) r)) (eqb (t.up v) x)
            (eqb u v) (has v (seen o.place (suc next) r)) n ih)

        split : Moved x r → eqb u v ≡ false → (b : Bool) → ltb (o.place u) next ≡ b → Moved x (u ∷ r)
        split ih n true i = short (ltb-true (o.place u) next i) n
        split ih n false i = long ih (omega (arith, ltb-false (o.place u) next i, other u k n)) n

        at_v : u ≡ v → Moved x (u ∷ r)
        at_v z =
            let head = way_head t w in
            let here = ap o.place z in
            let up = ap t.up z in
            rw (
              seen_long next u r (omega (arith, v_place)),
              seen_short (suc next) u r (omega (arith, v_place)),
              head.1,
              seen_short next (t.up u) head.0 (omega (arith, p_place, ap o.place up)),
              up,
            )
            (first_two (eqb u x) (eqb (t.up v) x) (eqb u v) (eq-eqb u v z))

        go : Moved x r → (b : Bool) → eqb u v ≡ b → Moved x (u ∷ r)
        go ih true i = at_v (eqb-true u v i)
        go ih false i = split ih i (ltb (o.place u) next) refl

    -- what has come to the parent had not come to v
    pub seen_apart :
        {u : ℕ} {r : List ℕ}
        → Way t u r → u < t.size → has (t.up v) (seen o.place (suc next) r) ≡ true
        → has v (seen o.place (suc next) r) ≡ false
    unfolding has
    seen_apart (top {u} e) k h =
        rw (seen_one (suc next) u)
        (ap (λ (b : Bool). b || false) (ne_eqb u v (λ z. far (sym z ∙ eqb-true u t.root e))))
    seen_apart (hop {u} {r} e w) k h = go (seen_apart w (o.closed.up_in u k)) (ltb (o.place u) (suc next)) refl
      where
        not_v : o.place u < suc next → eqb u (t.up v) ≡ true → eqb u v ≡ false
        not_v i q = ne_eqb u v (λ z. absurd (omega (arith, ap o.place z, ap o.place (eqb-true u (t.up v) q), v_place, p_place)))

        go :
            (has (t.up v) (seen o.place (suc next) r) ≡ true → has v (seen o.place (suc next) r) ≡ false)
            → (b : Bool) → ltb (o.place u) (suc next) ≡ b → has v (seen o.place (suc next) (u ∷ r)) ≡ false
        go ih true i =
            let low = ltb-true (o.place u) (suc next) i in
            let short = seen_short (suc next) u r low in
            either (eqb u (t.up v)) false (rw short at h) (λ q. rw (short, not_v low q)) (λ q c. clash c refl)
        go ih false i =
            let high = ltb-false (o.place u) (suc next) i in
            let long = seen_long (suc next) u r high in
            let n : eqb u v ≡ false = ne_eqb u v (λ z. absurd (omega (arith, ap o.place z, v_place))) in
            either (eqb u (t.up v)) (has (t.up v) (seen o.place (suc next) r)) (rw long at h)
            (λ q. absurd (omega (arith, ap o.place (eqb-true u (t.up v) q), p_place)))
            (λ q c. rw (long, n) (ih c))
