-- Sums, largest values, tests and rows over the numbers below k. Each goes on to suc k from what it is at k, as a loop does.
-- Assumes nothing.
use Rattle.std.specs.Prelude.{Bool, false, cond, ◌||◌, List, [], ◌∷◌, ◌++◌, ℕ, zero, suc, ◌+◌, max, drop}

-- The sum of f over the numbers below k.
unfoldable pub sum_to : (ℕ → ℕ) → ℕ → ℕ
sum_to f zero = 0
sum_to f (suc k) = sum_to f k + f k

-- The largest f over the numbers below k, 0 where there is none.
unfoldable pub max_to : (ℕ → ℕ) → ℕ → ℕ
max_to f zero = 0
max_to f (suc k) = max (max_to f k) (f k)

-- Does some number below k pass the test?
unfoldable pub some_to : (ℕ → Bool) → ℕ → Bool
some_to p zero = false
some_to p (suc k) = some_to p k || p k

-- The records f of the numbers below k, one after the other.
unfoldable pub rows_to : (ℕ → List ℕ) → ℕ → List ℕ
rows_to f zero = []
rows_to f (suc k) = rows_to f k ++ f k

-- The number v where the test holds, and 0 elsewhere.
unfoldable pub only_if : Bool → ℕ → ℕ
only_if b v = cond b v 0

-- A row with the numbers f 0 to f (k - 1) at its beginning, and the rest as it was.
unfoldable pub row_with : (ℕ → ℕ) → ℕ → List ℕ → List ℕ
row_with f k row = rows_to (λ u. f u ∷ []) k ++ drop k row
