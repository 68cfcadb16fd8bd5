-- Refusal 8, or a row: what the two ends of such a function promise. Assumes nothing.
use Rattle.std.specs.Prelude.{None, Option, Some}
use mathlib.Core.Path.{◌≡◌, sym, ap, ◌∙◌}
use mathlib.Core.Bool.{Bool}
use Prim.Native.Nat.{ℕ}
use Rattle.edition.specs.declared.Why.{Why}
use Rattle.edition.specs.Refusals.{Verdict, taken, if_taken}
use Rattle.rows.specs.First.{first_to, refused_at, refuse_at}

module _ (p : ℕ → Bool) (n : ℕ) (why : Why) where
  pub routed_none : (f : Option ℕ) → f ≡ first_to p n → f ≡ None → taken ≡ refuse_at p n why
  unfolding refuse_at refused_at
  routed_none f e z = ap (refused_at why) (sym z ∙ e)

  pub routed_some :
      {A : Type 0} (f : Option ℕ) (k : ℕ)
      → f ≡ first_to p n → f ≡ Some k → (r : Verdict) → r ≡ refused_at why f → (new old : A)
      → (r ≡ refuse_at p n why) × (old ≡ if_taken r new old)
  unfolding refuse_at refused_at
  routed_some f k e z r q new old = (q ∙ ap (refused_at why) e, ap (λ (v : Verdict). if_taken v new old) (sym (q ∙ ap (refused_at why) z)))
