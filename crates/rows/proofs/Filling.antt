-- The loop that writes one number after the other at the beginning of a row; every such loop cites this. And a row whose first
-- numbers were written in any order. Assumes nothing.
use mathlib.Core.Path.{◌≡◌, refl, sym, ap, ◌∙◌}
use mathlib.Core.Bool.{Bool, true, false}
use mathlib.Core.List.{List, [], ◌∷◌, ◌++◌, append_assoc}
use Prim.Native.Nat.{ℕ, zero, suc, ◌+◌, ◌-◌, ◌<◌, ◌≤◌}
use native.Mathlib.Nat.{not-suc-le-zero}
use native.Mathlib.Numerals.{add-one}
use native.Mathlib.Omega.{arith}
use lib.Dec.{eqb, ltb}
use lib.ListN.{length, get_or, set, drop, length-append, length-drop, get_or-append}
use borrow.Author.Tests.{eqb-true, eqb-false, ltb-true, ltb-false}
use lib.Seq.{drop-cons, set_at, get_or_at, get_or-append-add, get_or-drop, ext_get_or}
use Rattle.rows.specs.Count.{rows_to, row_with}
use Rattle.rows.proofs.Records.{rows_length}

module _ (f : ℕ → ℕ) (row : List ℕ) where
  front_length : (k : ℕ) → length (rows_to (λ u. f u ∷ []) k) ≡ k
  front_length k = omega (arith, rows_length (λ u. f u ∷ []) 1 (λ x. refl) k)

  front_at : (k i : ℕ) → i < k → get_or (rows_to (λ u. f u ∷ []) k) i 0 ≡ f i
  unfolding rows_to
  front_at zero i l = absurd (not-suc-le-zero l)
  front_at (suc k) i l = go (front_at k i) (eqb i k) refl
    where
      go : (i < k → get_or (rows_to (λ u. f u ∷ []) k) i 0 ≡ f i) → (b : Bool) → eqb i k ≡ b → get_or (rows_to (λ u. f u ∷ []) k ++ (f k ∷ [])) i 0 ≡ f i
      go ih true e = rw (eqb-true i k e) (get_or_at (rows_to (λ u. f u ∷ []) k) (f k) [] 0 k (front_length k))
      go ih false e =
          let low : i < k = omega (arith, eqb-false i k e) in
          get_or-append (rows_to (λ u. f u ∷ []) k) (f k ∷ []) 0 i (omega (arith, front_length k)) ∙ ih low

  fill_start : row_with f 0 row ≡ row
  unfolding row_with rows_to
  fill_start = refl

  pub fill_length : (k : ℕ) → k ≤ length row → length (row_with f k row) ≡ length row
  unfolding row_with
  fill_length k l = omega (arith, length-append (rows_to (λ u. f u ∷ []) k) (drop k row), front_length k, length-drop k row)

  fill_more : (k : ℕ) → k < length row → (v : ℕ) → v ≡ f k → set (row_with f k row) k v ≡ row_with f (k + 1) row
  unfolding row_with rows_to
  fill_more k l v q =
      rw (add-one k, drop-cons row k 0 l, set_at (rows_to (λ u. f u ∷ []) k) (get_or row k 0) (drop (suc k) row) v k (front_length k), q)
      (sym (append_assoc (rows_to (λ u. f u ∷ []) k) (f k ∷ []) (drop (suc k) row)))

-- what the loop keeps: the first k numbers of n are written
pub record Filled (f : ℕ → ℕ) (n : ℕ) (before : List ℕ) (k : ℕ) (now : List ℕ) : Type 0 where
  pub low : k ≤ n
  pub room : n ≤ length before
  pub is : now ≡ row_with f k before

module _ (f : ℕ → ℕ) (n : ℕ) (before : List ℕ) where
  pub filled-start : n ≤ length before → Filled f n before 0 before
  filled-start l = record { low = omega arith; room = l; is = sym (fill_start f before) }

  module _ (k : ℕ) (now : List ℕ) (s : Filled f n before k now) where
    pub filled-length : length now ≡ length before
    filled-length = ap length s.is ∙ fill_length f before k (omega (arith, s.low, s.room))

    pub filled-room : k < n → k < length now
    filled-room l = omega (arith, filled-length, s.room)

    pub filled_more : k < n → (v : ℕ) → v ≡ f k → Filled f n before (k + 1) (set now k v)
    filled_more l v q =
        record {
          low = omega arith;
          room = s.room;
          is = ap (λ (r : List ℕ). set r k v) s.is ∙ fill_more f before k (omega (arith, s.room)) v q;
        }

    pub filled-end : n ≤ k → now ≡ row_with f n before
    filled-end l =
        let q : k ≡ n = omega (arith, s.low) in
        s.is ∙ ap (λ (i : ℕ). row_with f i before) q

-- a number that was written
pub filled_at : (f : ℕ → ℕ) (n : ℕ) (row : List ℕ) (i : ℕ) → i < n → get_or (row_with f n row) i 0 ≡ f i
unfolding row_with
filled_at f n row i l =
    get_or-append (rows_to (λ u. f u ∷ []) n) (drop n row) 0 i (omega (arith, front_length f row n)) ∙ front_at f row n i l

-- what lies past the numbers written
filled-past : (f : ℕ → ℕ) (n : ℕ) (row : List ℕ) (k : ℕ) → n ≤ length row → n ≤ k → get_or (row_with f n row) k 0 ≡ get_or row k 0
unfolding row_with
filled-past f n row k l m =
    let front = rows_to (λ u. f u ∷ []) n in
    let long : length front ≡ n = front_length f row n in
    let at : k ≡ length front + (k - n) = omega arith in
    let back : n + (k - n) ≡ k = omega arith in
    ap (λ (j : ℕ). get_or (front ++ drop n row) j 0) at ∙ get_or-append-add front (drop n row) (k - n) 0 ∙ get_or-drop n row (k - n) 0 ∙
    ap (λ (j : ℕ). get_or row j 0) back

-- numbers written in any order
pub row_with_lem :
    (f : ℕ → ℕ) (n : ℕ) (before row : List ℕ)
    → n ≤ length before → length row ≡ length before
    → ((u : ℕ) → u < n → get_or row u 0 ≡ f u) → ((k : ℕ) → n ≤ k → get_or row k 0 ≡ get_or before k 0)
    → row ≡ row_with f n before
row_with_lem f n before row room same done rest =
    ext_get_or 0 row (row_with f n before) (same ∙ sym (fill_length f before n room)) (λ k j. go k (ltb k n) refl)
  where
    go : (k : ℕ) (b : Bool) → ltb k n ≡ b → get_or row k 0 ≡ get_or (row_with f n before) k 0
    go k true e = let low = ltb-true k n e in done k low ∙ sym (filled_at f n before k low)
    go k false e = let high = ltb-false k n e in rest k high ∙ sym (filled-past f n before k room high)
