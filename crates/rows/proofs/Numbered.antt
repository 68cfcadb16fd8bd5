-- Which of the refusal numbers a check can give. Assumes nothing.
use Rattle.std.specs.Prelude.{Err, None, Ok, Option, Some}
use mathlib.Core.Path.{◌≡◌, refl, sym, subst}
use mathlib.Core.Bool.{Bool, true, false}
use mathlib.Core.List.{List, [], ◌∷◌, ◌++◌}
use Prim.Native.Nat.{ℕ, zero, suc}
use Rattle.edition.specs.declared.Why.{Why}
use Rattle.edition.specs.declared.Refusal.{Refusal}
use Rattle.edition.specs.Refusals.{Verdict, taken, number_of}
use Rattle.rows.specs.First.{first_to, refused_at, refuse_at, refuse_if, firstly, verdict_to}
use Rattle.rows.specs.Lists.{has}
use Rattle.rows.proofs.Tests.{clash, or_right}
use Rattle.rows.proofs.Listed.{has-append}

-- a verdict is taken, or refused with one of these numbers
pub Gives : List ℕ → Verdict → Type 0
Gives ns (Ok _) = Unit {0}
Gives ns (Err r) = has (number_of r.why) ns ≡ true

module _ (ns : List ℕ) where
  pub taken_gives : (v : Verdict) → v ≡ taken → Gives ns v
  unfolding Gives
  taken_gives v q = subst (Gives ns) (sym q) tt

  pub if_gives : (b : Bool) (why : Why) (place : ℕ) → has (number_of why) ns ≡ true → Gives ns (refuse_if b why place)
  unfolding refuse_if Gives
  if_gives true why place h = h
  if_gives false why place h = tt

  pub at_gives : (p : ℕ → Bool) (k : ℕ) (why : Why) → has (number_of why) ns ≡ true → Gives ns (refuse_at p k why)
  unfolding refuse_at refused_at Gives
  at_gives p k why h = go (first_to p k)
    where
      go : (f : Option ℕ) → Gives ns (refused_at why f)
      go None = tt
      go (Some e) = h

  -- a list of checks
  pub none_gives : Gives ns (firstly [])
  unfolding firstly Gives
  none_gives = tt

  pub first_gives : (v : Verdict) (rest : List Verdict) → Gives ns v → Gives ns (firstly rest) → Gives ns (firstly (v ∷ rest))
  unfolding firstly
  first_gives (Ok _) rest p q = q
  first_gives (Err r) rest p q = p

  pub to_gives : (f : ℕ → Verdict) → ((i : ℕ) → Gives ns (f i)) → (k : ℕ) → Gives ns (verdict_to f k)
  unfolding verdict_to Gives
  to_gives f h zero = tt
  to_gives f h (suc k) = first_gives (verdict_to f k) (f k ∷ []) (to_gives f h k) (first_gives (f k) [] (h k) none_gives)

  -- among more numbers
  pub gives_left : (ms : List ℕ) (v : Verdict) → Gives ns v → Gives (ns ++ ms) v
  unfolding Gives
  gives_left ms (Ok _) h = tt
  gives_left ms (Err r) h = rw (has-append (number_of r.why) ns ms, h)

  pub gives_right : (ms : List ℕ) (v : Verdict) → Gives ns v → Gives (ms ++ ns) v
  unfolding Gives
  gives_right ms (Ok _) h = tt
  gives_right ms (Err r) h = rw (has-append (number_of r.why) ms ns) (or_right (has (number_of r.why) ms) (has (number_of r.why) ns) h)

  -- a check that cannot give the number of a refusal was taken
  pub passed :
      (v : Verdict) (rest : List Verdict) (r : Refusal)
      → Gives ns v → has (number_of r.why) ns ≡ false → firstly (v ∷ rest) ≡ Err r → (v ≡ taken) × (firstly rest ≡ Err r)
  unfolding firstly Gives
  passed (Ok _) rest r g n q = (refl, q)
  passed (Err s) rest r g n q = clash (subst (Gives ns) q g) n

  -- where what stands behind a check cannot give the number of a refusal, the check gave it
  pub given_first :
      (v : Verdict) (rest : List Verdict) (r : Refusal)
      → Gives ns (firstly rest) → has (number_of r.why) ns ≡ false → firstly (v ∷ rest) ≡ Err r → v ≡ Err r
  unfolding firstly Gives
  given_first (Ok _) rest r g n q = clash (subst (Gives ns) q g) n
  given_first (Err s) rest r g n q = q
