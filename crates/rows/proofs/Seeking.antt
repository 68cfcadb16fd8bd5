-- The loop that looks for the first number that passes: what it keeps, and what it ends with. Every such loop cites this.
-- Assumes nothing.
use Rattle.std.specs.Prelude.{None, Option, Some}
use mathlib.Core.Path.{◌≡◌, refl, sym, subst, ap, ◌∙◌}
use mathlib.Core.Bool.{Bool, true, false}
use Prim.Native.Nat.{ℕ, suc, ◌+◌, ◌<◌, ◌≤◌}
use native.Mathlib.Numerals.{add-one}
use native.Mathlib.Omega.{arith}
use Rattle.rows.specs.First.{first_to, or_here}
use Rattle.rows.proofs.Best.{Lowest, nowhere, here, first-is, first_unique}

-- one more number: it is found where nothing lower was
first_more : (p : ℕ → Bool) (k : ℕ) → or_here (first_to p k) (p k) k ≡ first_to p (suc k)
unfolding first_to
first_more p k = refl

-- what is found among the numbers below i
pub record Seeking (p : ℕ → Bool) (k i : ℕ) (found : Option ℕ) : Type 0 where
  pub low : i ≤ k
  pub is : found ≡ first_to p i

module _ (p : ℕ → Bool) (k : ℕ) where
  pub seek_start : Seeking p k 0 None
  unfolding first_to
  seek_start = record { low = omega arith; is = refl }

  module _ (i : ℕ) (f : Option ℕ) (s : Seeking p k i f) where
    -- b is the test's answer at i, g what is found then
    pub seek_more : i < k → (b : Bool) → b ≡ p i → (g : Option ℕ) → g ≡ or_here f b i → Seeking p k (i + 1) g
    seek_more l b q g e =
        record {
          low = omega arith;
          is = rw add-one (e ∙ (ap (λ h. or_here h b i) s.is ∙ (ap (λ t. or_here (first_to p i) t i) q ∙ first_more p i)));
        }

    pub seek_done : k ≤ i → f ≡ first_to p k
    seek_done h = subst (λ j. f ≡ first_to p j) (omega (arith, s.low)) s.is

  -- the loop that ends with the first: nothing below i passes
  module _ (i : ℕ) (s : Seeking p k i None) where
    pub seek_past : i < k → (b : Bool) → b ≡ p i → b ≡ false → Seeking p k (i + 1) None
    unfolding or_here
    seek_past l b q z = seek_more i None s l b q None (rw z)

    none_below : Lowest p i None → (j : ℕ) → j < i → p j ≡ false
    none_below (nowhere h) = h

    pub seek_here : i < k → (b : Bool) → b ≡ p i → b ≡ true → Some i ≡ first_to p k
    seek_here l b q z =
        first_unique p k (here {e = i} l (sym q ∙ z) (none_below (subst (Lowest p i) (sym s.is) (first-is p i)))) (first-is p k)
