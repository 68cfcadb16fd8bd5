-- Words as they are read. Assumes nothing.
use mathlib.Core.Path.{◌≡◌, refl, ap, ◌∙◌}
use mathlib.Core.List.{List, [], ◌∷◌, ◌++◌, append-nil}
use Prim.Native.Nat.{ℕ, ◌*◌, ◌/◌, ◌<◌, ◌≤◌}
use native.Mathlib.Omega.{arith}
use lib.ListN.{length}
use lib.Seq.{drop-length}
use Rattle.rows.specs.Count.{rows_to, row_with}
use Rattle.rows.proofs.Filling.{Filled, filled-end}
use Rattle.rows.proofs.Records.{rows_length}
use Rattle.numbers.proofs.Getting.{two_past}
use Rattle.test_words.specs.Words.{word_in, words_in}

-- a word past the end
pub word-past : (bytes : List ℕ) (i : ℕ) → length bytes / 2 < i → 0 ≡ word_in bytes i
unfolding word_in
word-past bytes i l = two_past bytes (2 * i) (omega (arith, l))

-- how many they are
pub words_length : (bytes : List ℕ) (n : ℕ) → length (words_in bytes n) ≡ n
unfolding words_in
words_length bytes n = omega (arith, rows_length (λ u. word_in bytes u ∷ []) 1 (λ x. refl) n)

-- a row all of whose numbers are written
pub words_filled :
    (bytes before : List ℕ) (k : ℕ) (now : List ℕ)
    → Filled (word_in bytes) (length before) before k now → length before ≤ k → now ≡ words_in bytes (length before)
unfolding words_in row_with
words_filled bytes before k now s l =
    let front : List ℕ = rows_to (λ u. word_in bytes u ∷ []) (length before) in
    filled-end _ _ _ _ _ s l ∙ (ap (λ (r : List ℕ). front ++ r) (drop-length before) ∙ append-nil front)
