-- What it says that checks are taken, and what makes them so: one law for each way a check is written. Assumes nothing.
use Rattle.std.proofs.lemmas.Result.{err_from_is_err_and}
use Rattle.std.specs.Result.{IsErrAnd}
use Rattle.std.specs.Prelude.{Result, Err, None, Ok, Option, Some}
use mathlib.Core.Path.{◌≡◌, refl, sym, subst, ap, ◌∙◌}
use mathlib.Core.Bool.{Bool, true, false}
use mathlib.Core.List.{List, [], ◌∷◌}
use Prim.Native.Nat.{ℕ, zero, suc, ◌<◌}
use native.Mathlib.Nat.{not-suc-le-zero}
use native.Mathlib.Omega.{arith}
use Rattle.edition.specs.declared.Why.{Why}
use Rattle.edition.specs.declared.Refusal.{Refusal}
use Rattle.edition.specs.Refusals.{Verdict, taken, refused}
use Rattle.rows.specs.First.{first_to, refused_at, refuse_at, refuse_if, firstly, verdict_to}
use Rattle.rows.proofs.Tests.{lastly}
use Rattle.rows.proofs.Best.{Lowest, nowhere, here, first-is, first_unique}

refused-not : {A : Type 0} {r : Refusal} → Err r ≡ taken → A
refused-not q = absurd (subst code q tt)
  where
    code : Verdict → Type 0
    code (Ok _) = ⊥
    code (Err r) = Unit {0}

-- a list of checks is taken exactly where each is
pub head_taken : (v : Verdict) (rest : List Verdict) → firstly (v ∷ rest) ≡ taken → v ≡ taken
unfolding firstly
head_taken (Ok _) rest h = refl
head_taken (Err r) rest h = h

pub rest-taken : (v : Verdict) (rest : List Verdict) → firstly (v ∷ rest) ≡ taken → firstly rest ≡ taken
unfolding firstly
rest-taken (Ok _) rest h = h
rest-taken (Err r) rest h = refused-not h

pub both_taken : (v : Verdict) (rest : List Verdict) → v ≡ taken → firstly rest ≡ taken → firstly (v ∷ rest) ≡ taken
unfolding firstly
both_taken v rest p q = rw p q

pub none_left : firstly [] ≡ taken
unfolding firstly
none_left = refl

-- the first that refuses decides
pub head_refuses : (v : Verdict) (rest : List Verdict) (r : Refusal) → v ≡ Err r → firstly (v ∷ rest) ≡ Err r
unfolding firstly
head_refuses v rest r q = rw q

pub head_passes : (v : Verdict) (rest : List Verdict) → v ≡ taken → firstly (v ∷ rest) ≡ firstly rest
unfolding firstly
head_passes v rest q = rw q

pub if_taken_lem : (b : Bool) (why : Why) (place : ℕ) → refuse_if b why place ≡ taken → b ≡ false
unfolding refuse_if
if_taken_lem true why place h = refused-not h
if_taken_lem false why place h = refl

pub if_passes : (b : Bool) (why : Why) (place : ℕ) → b ≡ false → refuse_if b why place ≡ taken
unfolding refuse_if
if_passes b why place h = rw h

pub at_taken : (p : ℕ → Bool) (k : ℕ) (why : Why) → refuse_at p k why ≡ taken → (j : ℕ) → j < k → p j ≡ false
unfolding refuse_at refused_at
at_taken p k why h = go (first_to p k) refl (first-is p k)
  where
    go : (f : Option ℕ) → first_to p k ≡ f → Lowest p k f → (j : ℕ) → j < k → p j ≡ false
    go None q (nowhere n) = n
    go (Some e) q l = refused-not (sym (ap (refused_at why) q) ∙ h)

pub at_passes : (p : ℕ → Bool) (k : ℕ) (why : Why) → ((j : ℕ) → j < k → p j ≡ false) → refuse_at p k why ≡ taken
unfolding refuse_at refused_at
at_passes p k why h = rw (first_unique p k (first-is p k) (nowhere h))

-- the lowest place where the test holds is named
pub at_refuses :
    (p : ℕ → Bool) (k : ℕ) (why : Why) (e : ℕ) → e < k → p e ≡ true → ((j : ℕ) → j < e → p j ≡ false) → refuse_at p k why ≡ refused why e
unfolding refuse_at refused_at
at_refuses p k why e l h n = ap (refused_at why) (first_unique p k (first-is p k) (here {e = e} l h n))

-- and what is named is such a place
pub at_named : (p : ℕ → Bool) (k : ℕ) (why : Why) (r : Refusal) → refuse_at p k why ≡ Err r → (r.place < k) × (p r.place ≡ true)
unfolding refuse_at refused_at
at_named p k why r h = go (first-is p k) h
  where
    Named : Verdict → Type 0
    Named (Ok _) = Unit {0}
    Named (Err s) = (s.place < k) × (p s.place ≡ true)

    go : {f : Option ℕ} → Lowest p k f → refused_at why f ≡ Err r → (r.place < k) × (p r.place ≡ true)
    go (nowhere n) q = refused-not (sym q)
    go (here {e} l t n) q = subst Named q (l, t)

-- checks in number order
pub to_taken : (f : ℕ → Verdict) (k : ℕ) → verdict_to f k ≡ taken → (j : ℕ) → j < k → f j ≡ taken
unfolding verdict_to
to_taken f zero h j l = absurd (not-suc-le-zero l)
to_taken f (suc k) h j l =
    lastly (λ j. f j ≡ taken) k (to_taken f k (head_taken _ _ h)) (head_taken _ _ (rest-taken _ _ h)) j l

pub to_passes : (f : ℕ → Verdict) (k : ℕ) → ((j : ℕ) → j < k → f j ≡ taken) → verdict_to f k ≡ taken
unfolding verdict_to
to_passes f zero h = refl
to_passes f (suc k) h =
    both_taken _ _ (to_passes f k (λ j l. h j (omega arith))) (both_taken _ _ (h k (omega arith)) none_left)

-- the last check decides by itself
pub only_one : (v : Verdict) → firstly (v ∷ []) ≡ v
unfolding firstly
only_one (Ok _) = refl
only_one (Err r) = refl

-- a refusal that is handed up is the one that came
pub handed : {T : Type 0} (a : Result T Refusal) (r : Refusal) → IsErrAnd a (λ e. e ≡ r) → a ≡ Err r
handed a r h = let p = err_from_is_err_and a h in p.1 ∙ ap Err p.2

-- the same where the check that refuses answers as much
pub handed_on : {T : Type 0} (a b : Result T Refusal) (r : Refusal) → IsErrAnd a (λ e. e ≡ r) → b ≡ Err r → a ≡ b
handed_on a b r h q = handed a r h ∙ sym q
