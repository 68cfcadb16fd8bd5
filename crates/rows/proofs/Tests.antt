-- Tests that are joined, taken apart. Assumes nothing.
use mathlib.Core.Path.{◌≡◌, refl, sym, subst, ◌∙◌}
use mathlib.Core.Bool.{Bool, true, false, ◌&&◌, ◌||◌, true≢false}
use Prim.Native.Nat.{ℕ, suc, ◌<◌}
use native.Mathlib.Omega.{arith}
use lib.Dec.{eqb}
use borrow.Author.Tests.{eqb-true, eqb-false}
use Rattle.rows.specs.Lists.{differ}

-- No test is both.
pub clash : {A : Type 0} {b : Bool} → b ≡ true → b ≡ false → A
clash p q = absurd (true≢false (sym p ∙ q))

pub and_left : (a b : Bool) → (a && b) ≡ true → a ≡ true
and_left true b h = refl
and_left false b h = h

pub and_right : (a b : Bool) → (a && b) ≡ true → b ≡ true
and_right true b h = h
and_right false b h = clash h refl

pub or_false : (a b : Bool) → (a || b) ≡ false → (a ≡ false) × (b ≡ false)
or_false true b h = clash refl h
or_false false b h = (refl, h)

pub or3_false : (a b c : Bool) → (a || b || c) ≡ false → (a ≡ false) × (b ≡ false) × (c ≡ false)
or3_false true b c h = clash refl h
or3_false false true c h = clash refl h
or3_false false false c h = (refl, refl, h)

pub or_right : (a b : Bool) → b ≡ true → (a || b) ≡ true
or_right true b h = refl
or_right false b h = h

pub or_none : (a : Bool) → (a || false) ≡ a
or_none true = refl
or_none false = refl

pub and_none : (a : Bool) → (a && false) ≡ false
and_none true = refl
and_none false = refl

pub or_swap : (a b : Bool) → (a || b) ≡ (b || a)
or_swap true true = refl
or_swap true false = refl
or_swap false true = refl
or_swap false false = refl

pub or_assoc : (a b c : Bool) → (a || b || c) ≡ (a || (b || c))
or_assoc true b c = refl
or_assoc false b c = refl

-- One of two tests that are joined by "or" holds.
pub either : {A : Type 0} (a b : Bool) → (a || b) ≡ true → (a ≡ true → A) → (a ≡ false → b ≡ true → A) → A
either true b h f g = f refl
either false b h f g = g refl h

-- A test that is true wherever it is tried is not false, and the other way round.
pub not_so : (b : Bool) → (b ≡ true → ⊥) → b ≡ false
not_so true f = absurd (f refl)
not_so false f = refl

-- Exactly one of two: by cases.
pub differ-cases : {A : Type 0} (a b : Bool) → differ a b ≡ true → (a ≡ true → b ≡ false → A) → (a ≡ false → b ≡ true → A) → A
differ-cases true true h f g = clash h refl
differ-cases true false h f g = f refl refl
differ-cases false true h f g = g refl refl
differ-cases false false h f g = clash h refl

-- What holds below k and at k holds below suc k.
pub lastly : (P : ℕ → Type 0) (k : ℕ) → ((i : ℕ) → i < k → P i) → P k → (j : ℕ) → j < suc k → P j
lastly P k f p j h = go (eqb j k) refl
  where
    go : (b : Bool) → eqb j k ≡ b → P j
    go true e = subst P (sym (eqb-true j k e)) p
    go false e = f j (omega (arith, eqb-false j k e))
