-- What is in a list, a list up to one of its numbers, and where two lists first meet. Assumes nothing.
use mathlib.Core.Path.{◌≡◌, refl, sym, subst, ap, ◌∙◌}
use mathlib.Core.Bool.{Bool, true, false, ◌||◌}
use mathlib.Core.List.{List, [], ◌∷◌, ◌++◌}
use Prim.Native.Nat.{ℕ, ◌+◌, ◌*◌, ◌≤◌}
use native.Mathlib.Omega.{arith}
use lib.Dec.{eqb}
use lib.ListN.{length}
use borrow.Author.Tests.{eqb-true, eq-eqb, ne_eqb}
use Rattle.rows.specs.Lists.{has, up_to, first_of, total, same}
use Rattle.rows.proofs.Tests.{clash, either, or_right, or_assoc, or_false, and_left, and_right}

pub has-append : (x : ℕ) (a b : List ℕ) → has x (a ++ b) ≡ (has x a || has x b)
unfolding has
has-append x [] b = refl
has-append x (u ∷ a) b =
    ap (λ (c : Bool). eqb u x || c) (has-append x a b) ∙ sym (or_assoc (eqb u x) (has x a) (has x b))

pub has_head : (u : ℕ) (r : List ℕ) → has u (u ∷ r) ≡ true
unfolding has
has_head u r = rw (eq-eqb u u refl)

pub total-append : (f : ℕ → ℕ) (a b : List ℕ) → total f (a ++ b) ≡ total f a + total f b
unfolding total
total-append f [] b = omega arith
total-append f (u ∷ a) b = omega (arith, total-append f a b)

-- a sum of values of which each is at most b
pub total_bound : (f : ℕ → ℕ) (b : ℕ) → ((u : ℕ) → f u ≤ b) → (r : List ℕ) → total f r ≤ length r * b
unfolding total
total_bound f b h [] = omega arith
total_bound f b h (u ∷ r) = omega (arith, h u, total_bound f b h r, native.Mathlib.Nat.suc-mul (length r) b)

-- a list up to c: nothing where it begins with c, else its head and the rest up to c
pub up_to-here : (u c : ℕ) (r : List ℕ) → eqb u c ≡ true → up_to c (u ∷ r) ≡ []
unfolding up_to
up_to-here u c r e = rw e

pub up_to-past : (u c : ℕ) (r : List ℕ) → eqb u c ≡ false → up_to c (u ∷ r) ≡ u ∷ up_to c r
unfolding up_to
up_to-past u c r e = rw e

pub up_to_less : (u c : ℕ) (r : List ℕ) → has u r ≡ false → has u (up_to c r) ≡ false
unfolding has up_to
up_to_less u c [] h = refl
up_to_less u c (v ∷ r) h = go (up_to_less u c r) (eqb v c) refl
  where
    go : (has u r ≡ false → has u (up_to c r) ≡ false) → (b : Bool) → eqb v c ≡ b → has u (up_to c (v ∷ r)) ≡ false
    go ih true e = rw e
    go ih false e = rw (e, (or_false (eqb v u) (has u r) h).0) (ih (or_false (eqb v u) (has u r) h).1)

pub up_to-out : (c : ℕ) (r : List ℕ) → has c (up_to c r) ≡ false
unfolding has up_to
up_to-out c [] = refl
up_to-out c (u ∷ r) = go (up_to-out c r) (eqb u c) refl
  where
    go : has c (up_to c r) ≡ false → (b : Bool) → eqb u c ≡ b → has c (up_to c (u ∷ r)) ≡ false
    go ih true e = rw e
    go ih false e = rw (e, e) ih

-- the place where two lists meet: in both, and nothing before it in the first is in the second
pub record Meets (r s : List ℕ) (c : ℕ) : Type 0 where
  pub one : has c r ≡ true
  pub two : has c s ≡ true
  pub none : (y : ℕ) → has y (up_to c r) ≡ true → has y s ≡ false

pub first_of_meets : (c : ℕ) (r s : List ℕ) → has c r ≡ true → has c s ≡ true → Meets r s (first_of s r)
unfolding has first_of
first_of_meets c [] s h g = clash h refl
first_of_meets c (u ∷ r) s h g = go (first_of_meets c r s) (has u s) refl
  where
    moved : {k : ℕ} → u ≡ k → (b : Bool) → has u s ≡ b → has k s ≡ b
    moved q b e = subst (λ (i : ℕ). has i s ≡ b) q e

    go : (has c r ≡ true → has c s ≡ true → Meets r s (first_of s r)) → (b : Bool) → has u s ≡ b → Meets (u ∷ r) s (first_of s (u ∷ r))
    go ih true e =
        rw e
        (record {
          one = has_head u r;
          two = e;
          none = λ y n. clash (rw (up_to-here u u r (eq-eqb u u refl)) at n) refl;
        })
    go ih false e =
        let m : Meets r s (first_of s r) = ih (either (eqb u c) (has c r) h (λ z. clash g (moved (eqb-true u c z) false e)) (λ z n. n)) g in
        let far : eqb u (first_of s r) ≡ false = ne_eqb u (first_of s r) (λ q. clash m.two (moved q false e)) in
        rw e
        (record {
          one = or_right (eqb u (first_of s r)) (has (first_of s r) r) m.one;
          two = m.two;
          none =
              λ y n.
              either (eqb u y) (has y (up_to (first_of s r) r)) (rw (up_to-past u (first_of s r) r far) at n)
              (λ i. moved (eqb-true u y i) false e)
              (λ i k. m.none y k);
        })

-- there is only one such place
pub meets_only : (r s : List ℕ) (c : ℕ) → Meets r s c → c ≡ first_of s r
unfolding has first_of
meets_only [] s c m = clash m.one refl
meets_only (u ∷ r) s c m = go (meets_only r s c) (eqb u c) refl (has u s) refl
  where
    go : (Meets r s c → c ≡ first_of s r) → (a : Bool) → eqb u c ≡ a → (b : Bool) → has u s ≡ b → c ≡ first_of s (u ∷ r)
    go ih true e true f = rw f (sym (eqb-true u c e))
    go ih true e false f = clash m.two (subst (λ (k : ℕ). has k s ≡ false) (eqb-true u c e) f)
    go ih false e true f = clash f (m.none u (rw (up_to-past u c r e) (has_head u (up_to c r))))
    go ih false e false f =
        rw f
        (ih
        (record {
          one = rw e at m.one;
          two = m.two;
          none = λ y n. m.none y (rw (up_to-past u c r e) (or_right (eqb u y) (has y (up_to c r)) n));
        }))

-- lists that compare the same are equal, and equal lists compare the same
pub same_equal : (a b : List ℕ) → same a b ≡ true → a ≡ b
unfolding same
same_equal [] [] h = refl
same_equal [] (y ∷ ys) h = clash h refl
same_equal (x ∷ xs) [] h = clash h refl
same_equal (x ∷ xs) (y ∷ ys) h =
    let p = eqb-true x y (and_left (eqb x y) (same xs ys) h) in
    let q = same_equal xs ys (and_right (eqb x y) (same xs ys) h) in
    cc

pub equal_same : (a : List ℕ) → same a a ≡ true
unfolding same
equal_same [] = refl
equal_same (x ∷ xs) = rw (eq-eqb x x refl) (equal_same xs)
