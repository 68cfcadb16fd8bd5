-- A search for the best, one number after the other. No public promise cites this page: `best-first` joins it to the first that
-- nothing comes before. Assumes nothing.
use Rattle.std.specs.Prelude.{None, Option, Some, Bool, true, cond, ◌&&◌, ℕ, zero, suc}

-- does k take the place of the best so far: there is none yet, or k is to come before it?
unfoldable pub beats : (ℕ → ℕ → Bool) → ℕ → Option ℕ → Bool
beats before k None = true
beats before k (Some b) = before k b

-- the best of the numbers below k that may stand, the lowest of those that nothing tells apart.
unfoldable pub best_to : (ℕ → Bool) → (ℕ → ℕ → Bool) → ℕ → Option ℕ
best_to may before zero = None
best_to may before (suc k) = let best = best_to may before k in cond (may k && beats before k best) (Some k) best
