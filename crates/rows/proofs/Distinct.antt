-- Distinct numbers below n are at most n. Assumes nothing.
use mathlib.Core.Path.{◌≡◌, refl, sym, subst, ap₂, ◌∙◌}
use mathlib.Core.Bool.{Bool, true, false, cond, ◌||◌}
use mathlib.Core.List.{List, [], ◌∷◌, ◌++◌}
use Prim.Native.Nat.{ℕ, zero, suc, ◌<◌, ◌≤◌}
use native.Mathlib.Nat.{not-suc-le-zero}
use native.Mathlib.Omega.{arith}
use lib.Dec.{eqb}
use lib.ListN.{length}
use borrow.Author.Tests.{eqb-true, eqb-false}
use Rattle.rows.specs.Lists.{has, up_to}
use Rattle.rows.proofs.Tests.{clash, or_false, or_right}
use Rattle.rows.proofs.Listed.{has-append, has_head, up_to_less}

pub data Distinct : List ℕ → Type 0 where
  nil : Distinct []
  cons : {u : ℕ} {r : List ℕ} → has u r ≡ false → Distinct r → Distinct (u ∷ r)

-- the list with c left out
without : ℕ → List ℕ → List ℕ
without c [] = []
without c (u ∷ r) = let rest = without c r in cond (eqb u c) rest (u ∷ rest)

has-without : (c y : ℕ) (r : List ℕ) → has y r ≡ false → has y (without c r) ≡ false
unfolding has without
has-without c y [] h = refl
has-without c y (u ∷ r) h = go (has-without c y r) (eqb u c) refl
  where
    go : (has y r ≡ false → has y (without c r) ≡ false) → (b : Bool) → eqb u c ≡ b → has y (without c (u ∷ r)) ≡ false
    go ih true e = rw e (ih (or_false (eqb u y) (has y r) h).1)
    go ih false e = rw (e, (or_false (eqb u y) (has y r) h).0) (ih (or_false (eqb u y) (has y r) h).1)

without-none : (c : ℕ) (r : List ℕ) → has c r ≡ false → without c r ≡ r
unfolding has without
without-none c [] h = refl
without-none c (u ∷ r) h =
    let z = or_false (eqb u c) (has c r) h in
    rw (z.0, without-none c r z.1)

without-out : (c : ℕ) (r : List ℕ) → has c (without c r) ≡ false
unfolding has without
without-out c [] = refl
without-out c (u ∷ r) = go (without-out c r) (eqb u c) refl
  where
    go : has c (without c r) ≡ false → (b : Bool) → eqb u c ≡ b → has c (without c (u ∷ r)) ≡ false
    go ih true e = rw e ih
    go ih false e = rw (e, e) ih

without_distinct : (c : ℕ) {r : List ℕ} → Distinct r → Distinct (without c r)
unfolding without
without_distinct c nil = nil
without_distinct c (cons {u} {r} h d) = go (without_distinct c d) (eqb u c) refl
  where
    go : Distinct (without c r) → (b : Bool) → eqb u c ≡ b → Distinct (without c (u ∷ r))
    go ih true e = rw e ih
    go ih false e = rw e (cons (has-without c u r h) ih)

without-length : (c : ℕ) {r : List ℕ} → Distinct r → length r ≤ suc (length (without c r))
unfolding without
without-length c nil = omega arith
without-length c (cons {u} {r} h d) = go (without-length c d) (eqb u c) refl
  where
    go : length r ≤ suc (length (without c r)) → (b : Bool) → eqb u c ≡ b → suc (length r) ≤ suc (length (without c (u ∷ r)))
    go ih true e = rw (e, without-none c r (subst (λ (k : ℕ). has k r ≡ false) (eqb-true u c e) h)) (omega arith)
    go ih false e = rw e (omega arith)

without-below : (k : ℕ) (r : List ℕ) → ((y : ℕ) → has y r ≡ true → y < suc k) → (y : ℕ) → has y (without k r) ≡ true → y < k
without-below k r h y m = go (has y r) refl (eqb y k) refl
  where
    go : (a : Bool) → has y r ≡ a → (b : Bool) → eqb y k ≡ b → y < k
    go false e b f = clash m (has-without k y r e)
    go true e true f = clash m (subst (λ (i : ℕ). has i (without k r) ≡ false) (sym (eqb-true y k f)) (without-out k r))
    go true e false f = omega (arith, h y e, eqb-false y k f)

pub pigeons : (n : ℕ) (r : List ℕ) → Distinct r → ((y : ℕ) → has y r ≡ true → y < n) → length r ≤ n
pigeons zero [] d h = omega arith
pigeons zero (u ∷ r) d h = absurd (not-suc-le-zero (h u (has_head u r)))
pigeons (suc n) r d h =
    omega (arith, without-length n d, pigeons n (without n r) (without_distinct n d) (without-below n r h))

-- two lists that share nothing
pub distinct_append : {a b : List ℕ} → Distinct a → Distinct b → ((y : ℕ) → has y a ≡ true → has y b ≡ false) → Distinct (a ++ b)
unfolding has
distinct_append nil e h = e
distinct_append {b} (cons {u} {r} f d) e h =
    cons (has-append u r b ∙ ap₂ ◌||◌ f (h u (has_head u r)))
    (distinct_append d e (λ y m. h y (or_right (eqb u y) (has y r) m)))

pub distinct_up_to : (c : ℕ) {r : List ℕ} → Distinct r → Distinct (up_to c r)
unfolding up_to
distinct_up_to c nil = nil
distinct_up_to c (cons {u} {r} f d) = go (distinct_up_to c d) (eqb u c) refl
  where
    go : Distinct (up_to c r) → (b : Bool) → eqb u c ≡ b → Distinct (up_to c (u ∷ r))
    go ih true e = rw e nil
    go ih false e = rw e (cons (up_to_less u c r f) ih)
