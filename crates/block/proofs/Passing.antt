-- Whether some number passes a test, asked place by place: `any` against `some_to`, and the bytes of a part against `dirty`. Assumes
-- nothing.
use mathlib.Core.Path.{◌≡◌, refl, sym, ap, ◌∙◌}
use mathlib.Core.Bool.{Bool, true, false, not}
use mathlib.Core.List.{List}
use Prim.Native.Nat.{ℕ, zero, suc, ◌+◌, ◌<◌, ◌≤◌}
use native.Mathlib.Numerals.{add-one}
use native.Mathlib.Omega.{arith}
use lib.Dec.{eqb}
use lib.ListN.{length, get_or, take}
use lib.Seq.{take_all}
use borrow.Author.Tests.{eq-eqb, ne_eqb}
use Rattle.std.specs.List.{list_any, between, range_with_len}
use Rattle.std.proofs.lemmas.List.Edits.{length-between, get_or-between}
use Rattle.std.proofs.lemmas.List.Folds.{list_any_more}
use Rattle.std.proofs.lemmas.List.FromFn.{length-range_with_len, get_or-range_with_len}
use Rattle.rows.specs.Count.{some_to}
use Rattle.rows.proofs.Best.{none_some, one_some}
use Rattle.block.specs.Bytes.{dirty}

-- p asks of the numbers of a list what q asks of their places
module _ (p q : ℕ → Bool) (xs : List ℕ) (n : ℕ) (l : length xs ≡ n) (alike : (j : ℕ) → j < n → p (get_or xs j 0) ≡ q j) where
  front : (k : ℕ) → k ≤ n → list_any p (take k xs) ≡ some_to q k
  unfolding some_to
  front zero h = refl
  front (suc k) h =
      let inside : k < length xs = omega arith in
      let below : k < n = omega arith in
      let more = list_any_more p xs k 0 inside in
      let rest = front k (omega arith) in
      rw (← add-one k, more, rest, alike k below)

  below : list_any p xs ≡ some_to q n
  below = let all = take_all n xs (omega (arith, l)) in rw all at (front n (omega arith))

-- the numbers below n
pub any_below : (p : ℕ → Bool) (n : ℕ) → list_any p (range_with_len 0 n) ≡ some_to p n
any_below p n =
    below p p (range_with_len 0 n) n (length-range_with_len 0 n) (λ j l. ap p (omega (arith, get_or-range_with_len 0 n j 0 l)))

-- one of the k bytes from a place on is not 0, or each is
module _ (b : List ℕ) (i k : ℕ) (h : i + k ≤ length b) where
  pub some_between :
      (j : ℕ) → j < length (between i (i + k) b) → (get_or (between i (i + k) b) j 0 ≡ 0 → ⊥)
      → true ≡ dirty b i k
  unfolding dirty
  some_between j l n =
      let inside : j < k = omega (arith, l, length-between b i (i + k) h) in
      let same = get_or-between b i (i + k) j 0 (omega arith) in
      sym
      (one_some (λ j. not (eqb (get_or b (i + j) 0) 0)) k j inside
      (ap not (ne_eqb (get_or b (i + j) 0) 0 (λ e. n (same ∙ e)))))

  pub none_between :
      ((j : ℕ) → j < length (between i (i + k) b) → get_or (between i (i + k) b) j 0 ≡ 0)
      → false ≡ dirty b i k
  unfolding dirty
  none_between zeros =
      sym
      (none_some (λ j. not (eqb (get_or b (i + j) 0) 0)) k
      (λ j l. ap not
      (eq-eqb (get_or b (i + j) 0) 0
      (sym (get_or-between b i (i + k) j 0 (omega arith)) ∙ zeros j (omega (arith, l, length-between b i (i + k) h))))))
