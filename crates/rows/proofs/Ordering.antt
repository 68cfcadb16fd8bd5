-- `sooner` orders lists: of two different lists exactly one comes before the other. Assumes nothing.
use mathlib.Core.Path.{◌≡◌, refl, sym, ap₂}
use mathlib.Core.Bool.{Bool, true, false, ◌&&◌, ◌||◌}
use mathlib.Core.List.{List, [], ◌∷◌}
use Prim.Native.Nat.{ℕ, ◌<◌, ◌≤◌}
use native.Mathlib.Omega.{arith}
use lib.Dec.{eqb, ltb}
use borrow.Author.Tests.{eqb-true, eqb-false, ltb-true, ltb-false}
use Rattle.rows.specs.Lists.{sooner}
use Rattle.rows.proofs.Tests.{clash}

-- two lists by their first numbers
module _ (x y : ℕ) (xs ys : List ℕ) where
  data Headed : Bool → Type 0 where
    less : x < y → Headed true
    equal : x ≡ y → Headed (sooner xs ys)
    more : y < x → Headed false

  headed : Headed (sooner (x ∷ xs) (y ∷ ys))
  unfolding sooner
  headed = go (ltb x y) refl (eqb x y) refl
    where
      go : (p : Bool) → ltb x y ≡ p → (q : Bool) → eqb x y ≡ q → Headed (ltb x y || (eqb x y && sooner xs ys))
      go true h q k = rw h (less (ltb-true x y h))
      go false h true k = rw (h, k) (equal (eqb-true x y k))
      go false h false k = rw (h, k) (more (omega (arith, ltb-false x y h, eqb-false x y k)))

  -- what it says that one does not come before the other
  pub not-sooner : sooner (x ∷ xs) (y ∷ ys) ≡ false → (y ≤ x) × (x ≡ y → sooner xs ys ≡ false)
  not-sooner z = go headed z
    where
      go : {b : Bool} → Headed b → b ≡ false → (y ≤ x) × (x ≡ y → sooner xs ys ≡ false)
      go (less h) z = clash refl z
      go (equal h) z = (omega arith, λ q. z)
      go (more h) z = (omega arith, λ q. absurd (omega arith))

  -- and when it does not
  pub sooner-not : y ≤ x → (x ≡ y → sooner xs ys ≡ false) → sooner (x ∷ xs) (y ∷ ys) ≡ false
  sooner-not l h = go headed
    where
      go : {b : Bool} → Headed b → b ≡ false
      go (less k) = absurd (omega arith)
      go (equal k) = h k
      go (more k) = refl

-- of two lists at most one comes before the other
pub sooner_asym : (a b : List ℕ) → sooner a b ≡ true → sooner b a ≡ false
unfolding sooner
sooner_asym [] [] h = refl
sooner_asym [] (y ∷ ys) h = refl
sooner_asym (x ∷ xs) [] h = clash h refl
sooner_asym (x ∷ xs) (y ∷ ys) h = go (sooner_asym xs ys) (headed x y xs ys) h
  where
    go : (sooner xs ys ≡ true → sooner ys xs ≡ false) → {b : Bool} → Headed x y xs ys b → b ≡ true → sooner (y ∷ ys) (x ∷ xs) ≡ false
    go rest (less k) z = sooner-not y x ys xs (omega arith) (λ q. absurd (omega arith))
    go rest (equal k) z = sooner-not y x ys xs (omega arith) (λ q. rest z)
    go rest (more k) z = clash z refl

-- what is not before a list is not before one that this list is not before
pub sooner-through : (a b c : List ℕ) → sooner b a ≡ false → sooner c b ≡ false → sooner c a ≡ false
unfolding sooner
sooner-through [] b [] h k = refl
sooner-through [] b (z ∷ zs) h k = refl
sooner-through (x ∷ xs) [] c h k = clash refl h
sooner-through (x ∷ xs) (y ∷ ys) [] h k = clash refl k
sooner-through (x ∷ xs) (y ∷ ys) (z ∷ zs) h k =
    let p = not-sooner y x ys xs h in
    let q = not-sooner z y zs ys k in
    sooner-not z x zs xs (omega (arith, p.0, q.0))
    (λ e. sooner-through xs ys zs (p.1 (omega (arith, p.0, q.0))) (q.1 (omega (arith, p.0, q.0))))

-- two lists of which none comes before the other are one
pub sooner_equal : (a b : List ℕ) → sooner a b ≡ false → sooner b a ≡ false → a ≡ b
unfolding sooner
sooner_equal [] [] h k = refl
sooner_equal [] (y ∷ ys) h k = clash refl h
sooner_equal (x ∷ xs) [] h k = clash refl k
sooner_equal (x ∷ xs) (y ∷ ys) h k =
    let p = not-sooner x y xs ys h in
    let q = not-sooner y x ys xs k in
    let e : x ≡ y = omega (arith, p.0, q.0) in
    ap₂ ◌∷◌ e (sooner_equal xs ys (p.1 e) (q.1 (sym e)))
