-- The lowest number that a caller's test passes, by what the test answered at each number up to it. Assumes nothing.
use Rattle.std.specs.Prelude.{Bool, true, false, ℕ, ◌<◌, ◌≡◌, Some, None}
use Rattle.std.proofs.Common.{sym, arith}
use Rattle.rows.specs.First.{first_to}
use Rattle.rows.proofs.Best.{nowhere, here, first-is, first_unique}

module _ (Answers : ℕ → Bool → Type 0) (n : ℕ) (p : ℕ → Bool) (told : (k : ℕ) (b : Bool) → k < n → Answers k b → b ≡ p k) where
  pub lowest_none : ((j : ℕ) → j < n → Answers j false) → None ≡ first_to p n
  lowest_none past = first_unique p n (nowhere (λ j l. sym (told j false l (past j l)))) (first-is p n)

  pub lowest_here : (i : ℕ) → i < n → ((j : ℕ) → j < i → Answers j false) → Answers i true → Some i ≡ first_to p n
  lowest_here i l past is =
      first_unique p n (here {e = i} l (sym (told i true l is)) (λ j k. sym (told j false (omega (arith, l, k)) (past j k)))) (first-is p n)
