-- The check of a block, added up word by word with the word of the check taken as 0. Assumes nothing.
use mathlib.Core.Path.{◌≡◌, refl, sym, ap, subst, ◌∙◌}
use mathlib.Core.Bool.{Bool, true, false}
use mathlib.Core.List.{List, [], ◌∷◌, ◌++◌}
use Prim.Native.Nat.{ℕ, zero, suc, ◌+◌, ◌*◌, ◌-◌, ◌/◌, ◌%◌, ◌<◌, ◌≤◌}
use native.Mathlib.Numerals.{add-one}
use native.Mathlib.Omega.{arith}
use lib.Dec.{eqb, ltb}
use lib.ListN.{length, get_or, take, drop, length-append, length-drop, get_or-append}
use lib.Seq.{drop-cons, length-take-le, get_or-take, get_or-drop}
use borrow.Author.Tests.{eqb-true, eqb-false, ltb-true, ltb-false, ne_eqb, lt-ltb, le-ltb}
use Rattle.edition.specs.Stored.{block_bytes, front_bytes}
use Rattle.numbers.specs.Bytes.{number_in, word_most}
use Rattle.numbers.proofs.Getting.{number_two}
use Rattle.block.specs.Bytes.{ones_add, ones_sum, checksum}
use Rattle.block.specs.Block.{check_of}
use Rattle.block.specs.Work.{block_words, blanked, word_of, folded_sum}

module _ (b : List ℕ) (l : length b ≡ block_bytes) where
  -- the first six bytes, one by one
  pub first_six : take 6 b ≡ get_or b 0 0 ∷ get_or b 1 0 ∷ get_or b 2 0 ∷ get_or b 3 0 ∷ get_or b 4 0 ∷ get_or b 5 0 ∷ []
  first_six =
      ap (take 6)
      (drop-cons b 0 0 (omega arith)
      ∙ ap (λ r. get_or b 0 0 ∷ r)
      (drop-cons b 1 0 (omega arith)
      ∙ ap (λ r. get_or b 1 0 ∷ r)
      (drop-cons b 2 0 (omega arith)
      ∙ ap (λ r. get_or b 2 0 ∷ r)
      (drop-cons b 3 0 (omega arith)
      ∙ ap (λ r. get_or b 3 0 ∷ r)
      (drop-cons b 4 0 (omega arith) ∙ ap (λ r. get_or b 4 0 ∷ r) (drop-cons b 5 0 (omega arith)))))))

  blank-drop : drop front_bytes (blanked b) ≡ drop front_bytes b
  unfolding blanked
  blank-drop = ap (λ (t : List ℕ). drop front_bytes (t ++ 0 ∷ 0 ∷ drop front_bytes b)) first_six

  blank-word : number_in (blanked b) 6 2 ≡ 0
  unfolding blanked number_in
  blank-word = ap (λ (t : List ℕ). number_in (t ++ 0 ∷ 0 ∷ drop front_bytes b) 6 2) first_six

  blank-length : length (blanked b) ≡ block_bytes
  unfolding blanked
  blank-length =
      omega (arith, length-append (take 6 b) (0 ∷ 0 ∷ drop front_bytes b), length-take-le 6 b (omega arith), length-drop front_bytes b)

  blank-low : (i : ℕ) → i < 6 → get_or (blanked b) i 0 ≡ get_or b i 0
  unfolding blanked
  blank-low i h =
      get_or-append (take 6 b) (0 ∷ 0 ∷ drop front_bytes b) 0 i (omega (arith, length-take-le 6 b (omega arith)))
      ∙ get_or-take 6 b i 0 h

  blank_high : (i : ℕ) → front_bytes ≤ i → get_or (blanked b) i 0 ≡ get_or b i 0
  blank_high i h =
      let q : front_bytes + (i - front_bytes) ≡ i = omega arith in
      subst (λ (j : ℕ). get_or (blanked b) j 0 ≡ get_or b j 0) q
      (sym (get_or-drop front_bytes (blanked b) (i - front_bytes) 0)
      ∙ (ap (λ (r : List ℕ). get_or r (i - front_bytes) 0) blank-drop ∙ get_or-drop front_bytes b (i - front_bytes) 0))

  word-is : (k : ℕ) → k < block_words → word_of b k ≡ number_in (blanked b) (k + k) 2
  unfolding word_of
  word-is k h = go (eqb k 3) refl (ltb k 3) refl
    where
      go : (s : Bool) → eqb k 3 ≡ s → (t : Bool) → ltb k 3 ≡ t → word_of b k ≡ number_in (blanked b) (k + k) 2
      go true e t f =
          let q : 6 ≡ k + k = omega (arith, eqb-true k 3 e) in
          rw e (sym (sym (ap (λ (i : ℕ). number_in (blanked b) i 2) q) ∙ blank-word))
      go false e true f =
          let m = ltb-true k 3 f in
          rw e
          (omega (arith, number_two b (k + k), number_two (blanked b) (k + k), blank-low (k + k) (omega arith), blank-low (k + k + 1) (omega arith)))
      go false e false f =
          let m = ltb-false k 3 f in
          let n = eqb-false k 3 e in
          let far : 4 ≤ k = omega arith in
          rw e
          (omega (arith, number_two b (k + k), number_two (blanked b) (k + k), blank_high (k + k) (omega arith), blank_high (k + k + 1) (omega arith)))

fold_some : (t : ℕ) → 0 < t → folded_sum t ≡ (t - 1) % word_most + 1
unfolding folded_sum
fold_some t h = rw (ne_eqb t 0 (omega arith)) refl

add_low : (a w : ℕ) → a + w ≤ word_most → ones_add a w ≡ a + w
unfolding ones_add
add_low a w h = rw (le-ltb word_most (a + w) h) refl

add_high : (a w : ℕ) → word_most < a + w → ones_add a w ≡ a + w - word_most
unfolding ones_add
add_high a w h = rw (lt-ltb word_most (a + w) h) refl

-- a word added after the carries are added in, or before: the same
fold_more : (t w : ℕ) → w ≤ word_most → ones_add (folded_sum t) w ≡ folded_sum (t + w)
unfolding folded_sum
fold_more zero zero h = add_low 0 0 h
fold_more zero (suc w) h = omega (arith, add_low 0 (suc w) (omega (arith, h)), fold_some (0 + suc w) (omega arith))
fold_more (suc t) w h = go (ltb word_most (folded_sum (suc t) + w)) refl
  where
    go : (s : Bool) → ltb word_most (folded_sum (suc t) + w) ≡ s → ones_add (folded_sum (suc t)) w ≡ folded_sum (suc t + w)
    go true e =
        let far = ltb-true word_most (folded_sum (suc t) + w) e in
        omega
        (arith, far, add_high (folded_sum (suc t)) w far, fold_some (suc t) (omega arith), fold_some (suc t + w) (omega arith))
    go false e =
        let near = ltb-false word_most (folded_sum (suc t) + w) e in
        omega
        (arith, near, add_low (folded_sum (suc t)) w near, fold_some (suc t) (omega arith), fold_some (suc t + w) (omega arith))

-- what the loop keeps: a plain sum of the first k words
pub record Summing (b : List ℕ) (sum k : ℕ) : Type 0 where
  pub most : sum ≤ k * word_most
  pub is : folded_sum sum ≡ ones_sum (blanked b) k

pub sum-start : (b : List ℕ) → Summing b 0 0
unfolding ones_sum folded_sum
sum-start b = record { most = omega arith; is = refl }

module _ (b : List ℕ) (l : length b ≡ block_bytes) (sum k : ℕ) (s : Summing b sum k) where
  pub sum_more : k < block_words → (w : ℕ) → w ≡ word_of b k → w ≤ word_most → Summing b (sum + w) (k + 1)
  unfolding ones_sum
  sum_more h w p m =
      record {
        most = omega (arith, s.most);
        is = sym (fold_more sum w m) ∙ rw (add-one k, s.is, p ∙ word-is b l k h);
      }

  pub sum-end : k ≡ block_words → (f : ℕ) → f ≡ folded_sum sum → word_most - f ≡ check_of b
  unfolding check_of checksum blanked
  sum-end h f p =
      let q : k ≡ length (blanked b) / 2 = omega (arith, h, blank-length b l) in
      ap (λ (n : ℕ). word_most - n) (p ∙ (s.is ∙ ap (ones_sum (blanked b)) q))
