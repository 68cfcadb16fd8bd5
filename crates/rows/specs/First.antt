-- The first of the numbers below k that passes a test, and the first refusal of a list. Assumes nothing.
use Rattle.std.specs.Prelude.{Err, None, Ok, Option, Some, Bool, cond, List, [], ◌∷◌, ℕ, zero, suc}
use Rattle.edition.specs.declared.Why.{Why}
use Rattle.edition.specs.Refusals.{Verdict, taken, refused}

-- What is found, or else this place where the test passes.
unfoldable pub or_here : Option ℕ → Bool → ℕ → Option ℕ
or_here None passes place = cond passes (Some place) None
or_here (Some lower) passes place = Some lower

-- The lowest number below k that passes the test.
unfoldable pub first_to : (ℕ → Bool) → ℕ → Option ℕ
first_to p zero = None
first_to p (suc k) = or_here (first_to p k) (p k) k

-- The number found, or another where nothing is.
unfoldable pub found_or : ℕ → Option ℕ → ℕ
found_or other None = other
found_or other (Some k) = k

-- Refused for this reason at what is found; taken where nothing is.
unfoldable pub refused_at : Why → Option ℕ → Verdict
refused_at why None = taken
refused_at why (Some k) = refused why k

-- Refused at the lowest place below k where the test holds; taken where it holds nowhere.
unfoldable pub refuse_at : (ℕ → Bool) → ℕ → Why → Verdict
refuse_at p k why = refused_at why (first_to p k)

-- Refused at this place where the test holds, else taken.
unfoldable pub refuse_if : Bool → Why → ℕ → Verdict
refuse_if b why place = cond b (refused why place) taken

-- The first refusal of a list of checks; taken where none refuses.
unfoldable pub firstly : List Verdict → Verdict
firstly [] = taken
firstly (Ok _ ∷ rest) = firstly rest
firstly (Err r ∷ rest) = Err r

-- The first refusal of the checks f 0 to f (k - 1); taken where none refuses.
unfoldable pub verdict_to : (ℕ → Verdict) → ℕ → Verdict
verdict_to f zero = taken
verdict_to f (suc k) = firstly (verdict_to f k ∷ f k ∷ [])
