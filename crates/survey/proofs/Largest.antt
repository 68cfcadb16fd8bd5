-- The two largest of a node's own distance and of the deepest below its children, as the children are passed on one by one: they
-- give the deepest below the node, and what is beside each child. Assumes nothing.
use mathlib.Core.Path.{◌≡◌, refl, sym, subst, ap, ◌∙◌}
use mathlib.Core.Bool.{Bool, true, false}
use mathlib.Core.List.{List}
use Prim.Native.Nat.{ℕ, suc, ◌<◌, ◌≤◌, max}
use native.Mathlib.Nat.{le_antisymm}
use native.Mathlib.Omega.{arith}
use lib.Dec.{eqb, ltb}
use lib.ListN.{get_or}
use borrow.Author.Tests.{eqb-true, eqb-false, eq-eqb, ne_eqb, ltb-true, ltb-false, lt-ltb, le-ltb}
use Rattle.rows.proofs.Tests.{clash}
use Rattle.tree.specs.Tree.{Tree, dist}
use Rattle.survey.specs.Known.{deepest, aside}
use Rattle.survey.specs.Work.{Order, lower, without, child}
use Rattle.survey.proofs.Besides.{deepest-own, deepest-child, deepest_least, parent-beside, sibling_beside, beside_least}

pub lower-new : (f s d : ℕ) → f < d → lower f s d ≡ f
unfolding lower
lower-new f s d l = rw (lt-ltb f d l)

pub lower_old : (f s d : ℕ) → d ≤ f → lower f s d ≡ max s d
unfolding lower
lower_old f s d l = rw (le-ltb f d l)

pub without-same : (f s d : ℕ) → d ≡ f → without f s d ≡ s
unfolding without
without-same f s d e = rw (eq-eqb d f e)

pub without_other : (f s d : ℕ) → (d ≡ f → ⊥) → without f s d ≡ f
unfolding without
without_other f s d n = rw (ne_eqb d f n)

without-low : (f s d : ℕ) → s ≤ f → without f s d ≤ f
without-low f s d l = go (eqb d f) refl
  where
    go : (b : Bool) → eqb d f ≡ b → without f s d ≤ f
    go true e = omega (arith, without-same f s d (eqb-true d f e))
    go false e = omega (arith, without_other f s d (eqb-false d f e))

lower-low : (f s d : ℕ) → s ≤ f → lower f s d ≤ max f d
lower-low f s d l = go (ltb f d) refl
  where
    go : (b : Bool) → ltb f d ≡ b → lower f s d ≤ max f d
    go true e = omega (arith, lower-new f s d (ltb-true f d e), ltb-true f d e)
    go false e = omega (arith, lower_old f s d (ltb-false f d e))

-- a number d is added: without one that was there, and without d
without_old : (f s d c : ℕ) → s ≤ f → c ≤ f → without (max f d) (lower f s d) c ≡ max (without f s c) d
without_old f s d c l m = go (ltb f d) refl (eqb c f) refl
  where
    go : (a : Bool) → ltb f d ≡ a → (b : Bool) → eqb c f ≡ b → without (max f d) (lower f s d) c ≡ max (without f s c) d
    go true e b q =
        let less = ltb-true f d e in
        omega (arith, without_other (max f d) (lower f s d) c (λ z. absurd (omega arith)), without-low f s c l)
    go false e true q =
        let more = ltb-false f d e in
        let same = eqb-true c f q in
        omega (arith, without-same (max f d) (lower f s d) c (omega arith), lower_old f s d more, without-same f s c same)
    go false e false q =
        let more = ltb-false f d e in
        let other = eqb-false c f q in
        omega (arith, without_other (max f d) (lower f s d) c (λ z. other (omega arith)), without_other f s c other)

without-new : (f s d : ℕ) → s ≤ f → without (max f d) (lower f s d) d ≡ f
without-new f s d l = go (ltb f d) refl (eqb d f) refl
  where
    go : (a : Bool) → ltb f d ≡ a → (b : Bool) → eqb d f ≡ b → without (max f d) (lower f s d) d ≡ f
    go true e b q =
        let less = ltb-true f d e in
        omega (arith, without-same (max f d) (lower f s d) d (omega arith), lower-new f s d less)
    go false e true q =
        let more = ltb-false f d e in
        let same = eqb-true d f q in
        omega (arith, without-same (max f d) (lower f s d) d (omega arith), lower_old f s d more)
    go false e false q =
        let more = ltb-false f d e in
        let other = eqb-false d f q in
        omega (arith, without_other (max f d) (lower f s d) d (λ z. other (omega arith)))

-- c is a child of x whose place is not below i
pub record Kid (t : Tree) (place : ℕ → ℕ) (i x c : ℕ) : Type 0 where
  pub node : c < t.size
  pub of : child t x c ≡ true
  pub passed : i ≤ place c

-- r is the largest of these numbers, but that of c
pub record Rest (t : Tree) (place : ℕ → ℕ) (i x c r : ℕ) : Type 0 where
  own : dist t x ≤ r
  kid : (y : ℕ) → (y ≡ c → ⊥) → Kid t place i x y → deepest t y ≤ r
  least : (b : ℕ) → dist t x ≤ b → ((y : ℕ) → (y ≡ c → ⊥) → Kid t place i x y → deepest t y ≤ b) → r ≤ b

-- f and s are the two largest
pub record Two (t : Tree) (place : ℕ → ℕ) (i x f s : ℕ) : Type 0 where
  low : s ≤ f
  own : dist t x ≤ f
  kid : (c : ℕ) → Kid t place i x c → deepest t c ≤ f
  least : (b : ℕ) → dist t x ≤ b → ((c : ℕ) → Kid t place i x c → deepest t c ≤ b) → f ≤ b
  but : (c : ℕ) → Kid t place i x c → Rest t place i x c (without f s (deepest t c))

module _ (t : Tree) (order : List ℕ) (o : Order t order) where
  -- no child is passed on yet
  pub two-start : (x f s : ℕ) → f ≡ dist t x → s ≡ 0 → Two t o.place t.size x f s
  two-start x f s p q =
      record {
        low = omega arith;
        own = omega arith;
        kid = λ c k. absurd (omega (arith, o.within c k.node, k.passed));
        least = λ b l h. omega arith;
        but = λ c k. absurd (omega (arith, o.within c k.node, k.passed));
      }

  module _ (next : ℕ) (l : next < t.size) where
    abbrev v : ℕ
    v = get_or order next 0

    sooner : (x c : ℕ) → Kid t o.place (suc next) x c → Kid t o.place next x c
    sooner x c k = record { node = k.node; of = k.of; passed = omega (arith, k.passed) }

    later : (x c : ℕ) → (c ≡ v → ⊥) → Kid t o.place next x c → Kid t o.place (suc next) x c
    later x c n k = record { node = k.node; of = k.of; passed = omega (arith, k.passed, far) }
      where
        far : o.place c ≡ next → ⊥
        far z = n (sym (o.there c k.node) ∙ ap (λ (j : ℕ). get_or order j 0) z)

    -- the node at this place is no child of x
    module _ (x f s : ℕ) (w : Two t o.place (suc next) x f s) where
      pub two_other : child t x v ≡ false → Two t o.place next x f s
      two_other none =
          record {
            low = w.low;
            own = w.own;
            kid = λ c k. w.kid c (still c k);
            least = λ b m h. w.least b m (λ c k. h c (sooner x c k));
            but = λ c k. rest c (w.but c (still c k));
          }
        where
          still : (c : ℕ) → Kid t o.place next x c → Kid t o.place (suc next) x c
          still c k = later x c (λ z. clash (subst (λ (y : ℕ). child t x y ≡ true) z k.of) none) k

          rest : (c : ℕ) → Rest t o.place (suc next) x c (without f s (deepest t c)) → Rest t o.place next x c (without f s (deepest t c))
          rest c r =
              record {
                own = r.own;
                kid = λ y n k. r.kid y n (still y k);
                least = λ b m h. r.least b m (λ y n k. h y n (sooner x y k));
              }

      -- it is, and is passed on
      pub two-more : child t x v ≡ true → (d : ℕ) → d ≡ deepest t v → Two t o.place next x (max f d) (lower f s d)
      two-more kin d e =
          record {
            low = lower-low f s d w.low;
            own = omega (arith, w.own);
            kid = λ c k. each c k (eqb c v) refl;
            least = λ b m h. omega (arith, w.least b m (λ c k. h c (sooner x c k)), h v here);
            but = λ c k. rest c k (eqb c v) refl;
          }
        where
          here : Kid t o.place next x v
          here = record { node = o.node next l; of = kin; passed = omega (arith, o.here next l) }

          each : (c : ℕ) → Kid t o.place next x c → (b : Bool) → eqb c v ≡ b → deepest t c ≤ max f d
          each c k true q = omega (arith, ap (deepest t) (eqb-true c v q))
          each c k false q = omega (arith, w.kid c (later x c (eqb-false c v q) k))

          new : Rest t o.place next x v f
          new =
              record {
                own = w.own;
                kid = λ y n k. w.kid y (later x y n k);
                least = λ b m h. w.least b m (λ y k. h y (λ z. absurd (omega (arith, k.passed, o.here next l, ap o.place z))) (sooner x y k));
              }

          old :
              (c : ℕ)
              → (c ≡ v → ⊥) → Rest t o.place (suc next) x c (without f s (deepest t c))
              → Rest t o.place next x c (max (without f s (deepest t c)) d)
          old c n r =
              record {
                own = omega (arith, r.own);
                kid = λ y m k. part y m k (eqb y v) refl;
                least = λ b m h. omega (arith, r.least b m (λ y j k. h y j (sooner x y k)), h v (λ z. n (sym z)) here);
              }
            where
              part : (y : ℕ) → (y ≡ c → ⊥) → Kid t o.place next x y → (b : Bool) → eqb y v ≡ b → deepest t y ≤ max (without f s (deepest t c)) d
              part y m k true q = omega (arith, ap (deepest t) (eqb-true y v q))
              part y m k false q = omega (arith, r.kid y m (later x y (eqb-false y v q) k))

          rest : (c : ℕ) → Kid t o.place next x c → (b : Bool) → eqb c v ≡ b → Rest t o.place next x c (without (max f d) (lower f s d) (deepest t c))
          rest c k true q =
              subst (λ (y : ℕ). Rest t o.place next x y (without (max f d) (lower f s d) (deepest t y))) (sym (eqb-true c v q))
              (subst (λ (y : ℕ). Rest t o.place next x v (without (max f d) (lower f s d) y)) e
              (subst (Rest t o.place next x v) (sym (without-new f s d w.low)) new))
          rest c k false q =
              let n = eqb-false c v q in
              let k' = later x c n k in
              subst (Rest t o.place next x c) (sym (without_old f s d (deepest t c) w.low (w.kid c k'))) (old c n (w.but c k'))

  -- every child has been passed on
  module _ (i x f s : ℕ) (w : Two t o.place i x f s) (all : (c : ℕ) → c < t.size → child t x c ≡ true → i ≤ o.place c) where
    pub two-deepest : x < t.size → f ≡ deepest t x
    two-deepest l =
        le_antisymm
        (w.least (deepest t x) (deepest-own t o.home o.closed.up_in x l)
        (λ c k. deepest-child t o.home o.closed.up_in x c k.node k.of))
        (deepest_least t o.home o.closed.up_in x f w.own
        (λ c k e. w.kid c (record { node = k; of = e; passed = all c k e })))

  pub two-aside :
      (i c f s : ℕ)
      → Two t o.place i (t.up c) f s
      → ((y : ℕ) → y < t.size → child t (t.up c) y ≡ true → i ≤ o.place y)
      → c < t.size → eqb c t.root ≡ false → without f s (deepest t c) ≡ aside t c
  unfolding child
  two-aside i c f s w all l n =
      le_antisymm
      (r.least (aside t c) (parent-beside t o.home o.closed.up_in c l n)
      (λ y m k. sibling_beside t o.home o.closed.up_in c l n y k.node m k.of))
      (beside_least t o.home o.closed.up_in c l n (without f s (deepest t c)) r.own
      (λ y k m e. r.kid y m (record { node = k; of = e; passed = all y k e })))
    where
      own : child t (t.up c) c ≡ true
      own = rw (n, eq-eqb (t.up c) (t.up c) refl)

      r : Rest t o.place i (t.up c) c (without f s (deepest t c))
      r = w.but c (record { node = l; of = own; passed = all c l own })
