-- The loop that writes the blocks one after the other, and the file that it leaves. Assumes nothing.
use mathlib.Core.Path.{◌≡◌, refl, sym, ap, ◌∙◌}
use mathlib.Core.List.{List, ◌++◌, append_assoc}
use Prim.Native.Nat.{ℕ, zero, suc, ◌+◌, ◌*◌, ◌<◌, ◌≤◌}
use native.Mathlib.Numerals.{add-one}
use native.Mathlib.Omega.{arith}
use lib.ListN.{length, take, drop, length-append, length-drop}
use lib.Seq.{take_at, drop_at, drop-drop}
use Rattle.edition.specs.Stored.{block_bytes}
use Rattle.rows.specs.Count.{rows_to}

-- what the loop keeps: the first i blocks are written
abbrev pub filed : (ℕ → List ℕ) → List ℕ → ℕ → List ℕ
filed f before i = rows_to f i ++ drop (i * block_bytes) before

pub filed_none : (f : ℕ → List ℕ) (before : List ℕ) → before ≡ filed f before 0
unfolding rows_to
filed_none f before = refl

module _ (f : ℕ → List ℕ) (count : ℕ) (before : List ℕ) (room : count * block_bytes ≤ length before)
    (sized : (i : ℕ) → i < count → length (f i) ≡ block_bytes) where
  front-size : (i : ℕ) → i ≤ count → length (rows_to f i) ≡ i * block_bytes
  unfolding rows_to
  front-size zero l = refl
  front-size (suc i) l = omega (arith, length-append (rows_to f i) (f i), front-size i (omega arith), sized i (omega arith))

  module _ (i : ℕ) (now : List ℕ) (is : now ≡ filed f before i) (l : i < count) where
    pub filed_room : i * block_bytes + block_bytes ≤ length now
    filed_room =
        omega (
          arith,
          room,
          ap length is ∙ length-append (rows_to f i) (drop (i * block_bytes) before),
          front-size i (omega arith),
          length-drop (i * block_bytes) before,
        )

    front-is : take (i * block_bytes) now ≡ rows_to f i
    front-is = ap (take (i * block_bytes)) is ∙ take_at (rows_to f i) (drop (i * block_bytes) before) (i * block_bytes) (front-size i (omega arith))

    rest-is : drop (i * block_bytes) now ≡ drop (i * block_bytes) before
    rest-is = ap (drop (i * block_bytes)) is ∙ drop_at (rows_to f i) (drop (i * block_bytes) before) (i * block_bytes) (front-size i (omega arith))

    -- one more block, in the place of the old bytes
    pub filed_more :
        (b : List ℕ) → b ≡ f i → (k : ℕ) → k ≡ block_bytes
        → take (i * block_bytes) now ++ (b ++ drop k (drop (i * block_bytes) now)) ≡ filed f before (i + 1)
    unfolding rows_to
    filed_more b q k e =
        let next : i * block_bytes + block_bytes ≡ (i + 1) * block_bytes = omega arith in
        let past : drop block_bytes (drop (i * block_bytes) before) ≡ drop ((i + 1) * block_bytes) before =
        drop-drop block_bytes (i * block_bytes) before ∙ ap (λ (j : ℕ). drop j before) next in
        let rows : rows_to f i ++ f i ≡ rows_to f (i + 1) = ap (rows_to f) (sym (add-one i)) in
        ap (λ (x : List ℕ). x ++ (b ++ drop k (drop (i * block_bytes) now))) front-is
        ∙ (ap (λ (x : List ℕ). rows_to f i ++ (x ++ drop k (drop (i * block_bytes) now))) q
        ∙ (ap (λ (j : ℕ). rows_to f i ++ (f i ++ drop j (drop (i * block_bytes) now))) e
        ∙ (ap (λ (x : List ℕ). rows_to f i ++ (f i ++ drop block_bytes x)) rest-is
        ∙ (ap (λ (x : List ℕ). rows_to f i ++ (f i ++ x)) past
        ∙ (sym (append_assoc (rows_to f i) (f i) (drop ((i + 1) * block_bytes) before))
        ∙ ap (λ (x : List ℕ). x ++ drop ((i + 1) * block_bytes) before) rows)))))
