-- The words of a row: the loop that counts their ones, and what count and lowest one are where the words are made of tests.
-- Assumes nothing.
use Rattle.std.specs.Prelude.{None, Option, Some}
use mathlib.Core.Path.{◌≡◌, refl, sym, subst, ap, ◌∙◌}
use mathlib.Core.Bool.{Bool, true, false, not}
use mathlib.Core.List.{List}
use Prim.Native.Nat.{ℕ, zero, suc, ◌+◌, ◌*◌, ◌-◌, ◌/◌, ◌%◌, ◌^◌, ◌<◌, ◌≤◌}
use native.Mathlib.Nat.{add_assoc}
use native.Mathlib.Omega.{arith}
use lib.Count.{ones, ones-le, count_trailing_zeros}
use lib.Dec.{eqb, ltb}
use lib.ListN.{get_or}
use borrow.Author.Tests.{not-false, eqb-true, eq-eqb, ltb-true, ltb-false}
use Rattle.edition.specs.Limits.{no_node, map_words, word_bits}
use Rattle.rows.specs.Count.{sum_to, only_if}
use Rattle.rows.specs.First.{first_to, found_or}
use Rattle.rows.proofs.Best.{Lowest, nowhere, here, first-is, first_unique}
use Rattle.rows.proofs.Counting.{sum_cong, sum-none}
use Rattle.rows.proofs.Filling.{filled_at}
use Rattle.rows.proofs.Tests.{clash}
use Rattle.map.specs.Work.{word_by, words_by, ones_in, some_in, lowest_at, lowest_in}
use Rattle.map.proofs.Packing.{only_none, ones_packed, none-packed, packed_none, trailing_packed}

-- the first k words have no more ones than bits
ones_few : (row : List ℕ) → ((i : ℕ) → get_or row i 0 < 2 ^ 64) → (k : ℕ) → sum_to (λ i. ones (get_or row i 0)) k ≤ word_bits * k
unfolding sum_to
ones_few row held zero = omega arith
ones_few row held (suc k) = omega (arith, ones_few row held k, ones-le 64 (get_or row k 0) (held k))

pub ones_room :
    (row : List ℕ) → ((i : ℕ) → get_or row i 0 < 2 ^ 64) → (k : ℕ) → k < map_words → (total : ℕ) → total ≡ sum_to (λ i. ones (get_or row i 0)) k
    → total + ones (get_or row k 0) < 2 ^ 32
ones_room row held k l total q = omega (arith, l, q, ones_few row held k, ones-le 64 (get_or row k 0) (held k))

-- a sum in two parts
sum_split : (f : ℕ → ℕ) (a b : ℕ) → sum_to f (a + b) ≡ sum_to f a + sum_to (λ j. f (a + j)) b
unfolding sum_to
sum_split f a zero =
    let none : a + 0 ≡ a = omega arith in
    ap (sum_to f) none ∙ omega arith
sum_split f a (suc b) =
    let next : a + suc b ≡ suc (a + b) = omega arith in
    ap (sum_to f) next ∙ (ap (λ s. s + f (a + b)) (sum_split f a b) ∙ add_assoc (sum_to f a) (sum_to (λ j. f (a + j)) b) (f (a + b)))

-- sums of words, one after the other
sum_words : (f : ℕ → ℕ) (k : ℕ) → sum_to (λ i. sum_to (λ j. f (i * word_bits + j)) word_bits) k ≡ sum_to f (k * word_bits)
unfolding sum_to
sum_words f zero = refl
sum_words f (suc k) =
    let next : k * word_bits + word_bits ≡ suc k * word_bits = omega arith in
    ap (λ s. s + sum_to (λ j. f (k * word_bits + j)) word_bits) (sum_words f k)
    ∙ (sym (sum_split f (k * word_bits) word_bits) ∙ ap (sum_to f) next)

-- tests that fail from n on
module _ (p : ℕ → Bool) (n : ℕ) (few : n ≤ map_words * word_bits) (past : (x : ℕ) → n ≤ x → p x ≡ false) where
  pub sum_tests : sum_to (λ x. only_if (p x) 1) (map_words * word_bits) ≡ sum_to (λ x. only_if (p x) 1) n
  sum_tests =
      let size : map_words * word_bits ≡ n + (map_words * word_bits - n) = omega (arith, few) in
      ap (sum_to (λ x. only_if (p x) 1)) size
      ∙ (sum_split (λ x. only_if (p x) 1) n (map_words * word_bits - n)
      ∙ omega (arith, sum-none (λ j. only_if (p (n + j)) 1) (map_words * word_bits - n) (λ j l. only_none (p (n + j)) 1 (past (n + j) (omega arith)))))

  module _ (row : List ℕ) where
    word-is : (i : ℕ) → i < map_words → get_or (words_by p row) i 0 ≡ word_by p i
    unfolding words_by
    word-is i l = filled_at (word_by p) map_words row i l

    -- the count of the words is that of the tests
    pub ones_are : ones_in (words_by p row) ≡ sum_to (λ x. only_if (p x) 1) n
    unfolding ones_in word_by
    ones_are =
        sum_cong _ _ map_words (λ i l. ap ones (word-is i l) ∙ ones_packed (λ j. p (i * word_bits + j)) word_bits)
        ∙ (sum_words (λ x. only_if (p x) 1) map_words ∙ sum_tests)

    none_in : (i : ℕ) → i < map_words → some_in (words_by p row) i ≡ false → (j : ℕ) → j < word_bits → p (i * word_bits + j) ≡ false
    unfolding some_in word_by
    none_in i l h =
        packed_none (λ j. p (i * word_bits + j)) word_bits
        (sym (word-is i l) ∙ eqb-true (get_or (words_by p row) i 0) 0 (not-false (eqb (get_or (words_by p row) i 0) 0) h))

    none_below : (i x : ℕ) → i ≤ map_words → ((k : ℕ) → k < i → some_in (words_by p row) k ≡ false) → x < i * word_bits → p x ≡ false
    none_below i x l h m =
        let parts : x / word_bits * word_bits + x % word_bits ≡ x = omega arith in
        subst (λ y. p y ≡ false) parts
        (none_in (x / word_bits) (omega arith) (h (x / word_bits) (omega arith)) (x % word_bits) (omega arith))

    found_in :
        (i j : ℕ)
        → i < map_words → ((k : ℕ) → k < i → some_in (words_by p row) k ≡ false) → j < word_bits
        → p (i * word_bits + j) ≡ true → ((k : ℕ) → k < j → p (i * word_bits + k) ≡ false)
        → lowest_at (words_by p row) (Some i) ≡ found_or no_node (first_to p n)
    unfolding lowest_at word_by found_or
    found_in i j l none m e low =
        ap (λ w. i * word_bits + count_trailing_zeros word_bits w) (word-is i l)
        ∙ (ap (λ t. i * word_bits + t) (trailing_packed j (λ k. p (i * word_bits + k)) word_bits m e low)
        ∙ ap (found_or no_node) (first_unique p n (here {e = i * word_bits + j} inside e lower) (first-is p n)))
      where
        inside : i * word_bits + j < n
        inside = go (ltb (i * word_bits + j) n) refl
          where
            go : (b : Bool) → ltb (i * word_bits + j) n ≡ b → i * word_bits + j < n
            go true q = ltb-true (i * word_bits + j) n q
            go false q = clash e (past (i * word_bits + j) (ltb-false (i * word_bits + j) n q))

        lower : (x : ℕ) → x < i * word_bits + j → p x ≡ false
        lower x k = go (ltb x (i * word_bits)) refl
          where
            go : (b : Bool) → ltb x (i * word_bits) ≡ b → p x ≡ false
            go true q = none_below i x (omega arith) none (ltb-true x (i * word_bits) q)
            go false q =
                let parts : i * word_bits + (x - i * word_bits) ≡ x = omega (arith, ltb-false x (i * word_bits) q) in
                subst (λ y. p y ≡ false) parts (low (x - i * word_bits) (omega (arith, ltb-false x (i * word_bits) q, k)))

    none-word : (i : ℕ) → i < map_words → ((j : ℕ) → j < word_bits → p (i * word_bits + j) ≡ false) → some_in (words_by p row) i ≡ false
    unfolding some_in word_by
    none-word i l h =
        ap not (eq-eqb (get_or (words_by p row) i 0) 0 (word-is i l ∙ none-packed (λ j. p (i * word_bits + j)) word_bits h))

    none-lowest : ((k : ℕ) → k < map_words → some_in (words_by p row) k ≡ false) → lowest_at (words_by p row) None ≡ found_or no_node (first_to p n)
    unfolding lowest_at found_or
    none-lowest h =
        ap (found_or no_node)
        (first_unique p n (nowhere (λ x l. none_below map_words x (omega arith) h (omega (arith, few)))) (first-is p n))

    -- the lowest one of the words is that of the tests
    pub lowest-is : lowest_in (words_by p row) ≡ found_or no_node (first_to p n)
    unfolding lowest_in
    lowest-is = go (first-is (some_in (words_by p row)) map_words)
      where
        within :
            (i : ℕ)
            → i < map_words → some_in (words_by p row) i ≡ true → ((k : ℕ) → k < i → some_in (words_by p row) k ≡ false)
            → {f : Option ℕ} → Lowest (λ j. p (i * word_bits + j)) word_bits f
            → lowest_at (words_by p row) (Some i) ≡ found_or no_node (first_to p n)
        within i l e none (nowhere h) = clash e (none-word i l h)
        within i l e none (here {e = j} m q low) = found_in i j l none m q low

        go : {f : Option ℕ} → Lowest (some_in (words_by p row)) map_words f → lowest_at (words_by p row) f ≡ found_or no_node (first_to p n)
        go (nowhere h) = none-lowest h
        go (here {e = i} l e none) = within i l e none (first-is (λ j. p (i * word_bits + j)) word_bits)

-- the lowest one of a row, by the first of its words that is not 0
module _ (row : List ℕ) where
  pub lowest_here :
      (i : ℕ)
      → Some i ≡ first_to (some_in row) map_words → (w : ℕ) → w ≡ get_or row i 0 → i * word_bits + count_trailing_zeros word_bits w ≡ lowest_in row
  unfolding lowest_in lowest_at
  lowest_here i q w p = rw (← q, p)

  pub lowest_nowhere : None ≡ first_to (some_in row) map_words → no_node ≡ lowest_in row
  unfolding lowest_in lowest_at
  lowest_nowhere q = rw (← q)
