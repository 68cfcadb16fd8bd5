-- Records in a row: one that is put is read back, and every other record and number stays. Assumes nothing.
use mathlib.Core.Path.{◌≡◌, refl, sym, ap, ◌∙◌}
use mathlib.Core.Bool.{Bool, true, false, true≢false}
use mathlib.Core.List.{List, [], ◌∷◌, ◌++◌}
use Prim.Native.Nat.{ℕ, zero, suc, ◌+◌, ◌*◌, ◌-◌, ◌/◌, ◌<◌, ◌≤◌}
use native.Mathlib.Nat.{not-suc-le-zero, suc-mul, mul-le-mul_right, div-mul-le_self, le-div_iff_mul-le, mul-div_cancel}
use native.Mathlib.Numerals.{add-one}
use native.Mathlib.Omega.{arith}
use lib.Dec.{ltb}
use lib.ListN.{length, get_or, set, take, drop, length-set, length-drop, length-append, take-append-drop}
use lib.Seq.{sets, length-sets, length-take-le, get_or-set_same, get_or-set_other, set_comm, get_or-take, get_or-drop, ext_get_or, take-add, take_all, take_at}
use lib.Seq.{drop_at, drop-drop, sets-eq}
use borrow.Author.Tests.{ltb-true, ltb-false, lt-ltb, le-ltb}
use Rattle.rows.specs.Count.{rows_to}
use Rattle.rows.specs.Records.{records_in, record_in, with_record, first_records, past_records}
use Rattle.rows.proofs.Records.{rows_length_in, rows_at_in}

-- what a run of stores leaves: the old numbers outside it, the stored ones in it
sets_below : (vs l : List ℕ) (i j : ℕ) → j < i → get_or (sets l i vs) j 0 ≡ get_or l j 0
sets_below [] l i j h = refl
sets_below (a ∷ vs) l i j h = sets_below vs (set l i a) (suc i) j (omega arith) ∙ get_or-set_other l i j a 0 (λ q. omega arith)

sets_past : (vs l : List ℕ) (i j : ℕ) → i + length vs ≤ j → get_or (sets l i vs) j 0 ≡ get_or l j 0
sets_past [] l i j h = refl
sets_past (a ∷ vs) l i j h = sets_past vs (set l i a) (suc i) j (omega arith) ∙ get_or-set_other l i j a 0 (λ q. omega arith)

sets_in : (vs l : List ℕ) (i k : ℕ) → k < length vs → i + length vs ≤ length l → get_or (sets l i vs) (i + k) 0 ≡ get_or vs k 0
sets_in [] l i k m room = absurd (not-suc-le-zero m)
sets_in (a ∷ vs) l i zero m room =
    let here : i + 0 ≡ i = omega arith in
    rw here (sets_below vs (set l i a) (suc i) i (omega arith) ∙ get_or-set_same l i a 0 (omega arith))
sets_in (a ∷ vs) l i (suc k) m room =
    let next : i + suc k ≡ suc i + k = omega arith in
    rw next (sets_in vs (set l i a) (suc i) k (omega arith) (rw (length-set l i a) (omega arith)))

-- what lies from a place on, as a part of the row
pub rest_of : (row : List ℕ) (at : ℕ) → take (length row - at) (drop at row) ≡ drop at row
rest_of row at = take_all (length row - at) (drop at row) (omega (arith, length-drop at row))

-- a lower record ends where a higher one begins, or before
before : (w j k : ℕ) → j < k → j * w + w ≤ k * w
before w j k h = omega (arith, mul-le-mul_right {m = suc j} {n = k} w h, suc-mul j w)

module _ (w : ℕ) (row : List ℕ) where
  -- a record that there is ends within the row
  pub record-fits : (k : ℕ) → k < records_in w row → k * w + w ≤ length row
  record-fits k h = omega (arith, before w k (length row / w) h, div-mul-le_self (length row) w)

  pub record_is : (k : ℕ) → k < records_in w row → record_in w row k ≡ take w (drop (k * w) row)
  unfolding record_in
  record_is k h = rw (lt-ltb k (records_in w row) h)

  pub record-none : (k : ℕ) → records_in w row ≤ k → record_in w row k ≡ []
  unfolding record_in
  record-none k h = rw (le-ltb k (records_in w row) h)

  pub record-size : (k : ℕ) → k < records_in w row → length (record_in w row k) ≡ w
  record-size k h =
      ap length (record_is k h)
      ∙ length-take-le w (drop (k * w) row) (omega (arith, record-fits k h, length-drop (k * w) row))

  -- number i of record k
  pub record_number : (k i : ℕ) → k < records_in w row → i < w → get_or (record_in w row k) i 0 ≡ get_or row (k * w + i) 0
  record_number k i h l =
      ap (λ (r : List ℕ). get_or r i 0) (record_is k h)
      ∙ (get_or-take w (drop (k * w) row) i 0 l ∙ get_or-drop (k * w) row i 0)

  -- the records one after the other are the front of the row
  front : (n : ℕ) → n ≤ records_in w row → rows_to (record_in w row) n ≡ take (n * w) row
  unfolding rows_to
  front zero h = rw (native.Mathlib.Nat.zero-mul w)
  front (suc n) h = rw (front n (omega arith), record_is n h, suc-mul n w) (sym (take-add (n * w) w row))

  -- a row is its records and what lies past them
  pub row_records : (n : ℕ) → n ≤ records_in w row → row ≡ rows_to (record_in w row) n ++ past_records w n row
  unfolding past_records
  row_records n h = rw (front n h) (sym (take-append-drop (n * w) row))

-- a record among the first n is the same in a row that is cut behind them
pub record-front : (w : ℕ) (row : List ℕ) (n x : ℕ) → zero < w → x < n → n ≤ records_in w row → record_in w (first_records w n row) x ≡ record_in w row x
unfolding first_records
record-front w row n x pos l h =
    ext_get_or 0 (record_in w (take (n * w) row) x) (record_in w row x) (size ∙ sym (record-size w row x (omega (arith, l, h))))
    (λ i m.
    let low : i < w = omega (arith, m, size) in
    record_number w (take (n * w) row) x i there low
    ∙ (get_or-take (n * w) row (x * w + i) 0 (omega (arith, before w x n l, low)) ∙ sym (record_number w row x i (omega (arith, l, h)) low)))
  where
    long : n * w ≤ length row
    long = omega (arith, mul-le-mul_right {m = n} {n = length row / w} w h, div-mul-le_self (length row) w)

    there : x < records_in w (take (n * w) row)
    there = rw (length-take-le (n * w) row long, mul-div_cancel n pos) l

    size : length (record_in w (take (n * w) row) x) ≡ w
    size = record-size w (take (n * w) row) x there

module _ (w : ℕ) (row : List ℕ) (k : ℕ) (new : List ℕ) where
  put_is : k < records_in w row → with_record w row k new ≡ sets row (k * w) new
  unfolding with_record
  put_is h = rw (lt-ltb k (records_in w row) h)

  pub put_none : records_in w row ≤ k → with_record w row k new ≡ row
  unfolding with_record
  put_none h = rw (le-ltb k (records_in w row) h)

  pub put_length : length (with_record w row k new) ≡ length row
  put_length = go (ltb k (records_in w row)) refl
    where
      go : (b : Bool) → ltb k (records_in w row) ≡ b → length (with_record w row k new) ≡ length row
      go true e = ap length (put_is (ltb-true _ _ e)) ∙ length-sets row (k * w) new
      go false e = ap length (put_none (ltb-false _ _ e))

  pub put_count : records_in w (with_record w row k new) ≡ records_in w row
  put_count = ap (λ (n : ℕ). n / w) put_length

  -- numbers before and behind the record stay
  pub put_below : (j : ℕ) → j < k * w → get_or (with_record w row k new) j 0 ≡ get_or row j 0
  put_below j l = go (ltb k (records_in w row)) refl
    where
      go : (b : Bool) → ltb k (records_in w row) ≡ b → get_or (with_record w row k new) j 0 ≡ get_or row j 0
      go true e = ap (λ (r : List ℕ). get_or r j 0) (put_is (ltb-true _ _ e)) ∙ sets_below new row (k * w) j l
      go false e = ap (λ (r : List ℕ). get_or r j 0) (put_none (ltb-false _ _ e))

  module _ (sized : length new ≡ w) where
    pub put_beyond : (j : ℕ) → k * w + w ≤ j → get_or (with_record w row k new) j 0 ≡ get_or row j 0
    put_beyond j l = go (ltb k (records_in w row)) refl
      where
        go : (b : Bool) → ltb k (records_in w row) ≡ b → get_or (with_record w row k new) j 0 ≡ get_or row j 0
        go true e = ap (λ (r : List ℕ). get_or r j 0) (put_is (ltb-true _ _ e)) ∙ sets_past new row (k * w) j (omega (arith, l, sized))
        go false e = ap (λ (r : List ℕ). get_or r j 0) (put_none (ltb-false _ _ e))

    -- what was put is read back
    pub put_same : k < records_in w row → record_in w (with_record w row k new) k ≡ new
    put_same h =
        ext_get_or 0 (record_in w (with_record w row k new) k) new
        (long ∙ sym sized)
        (λ i l. number i (omega (arith, l, long)))
      where
        there : k < records_in w (with_record w row k new)
        there = omega (arith, h, put_count)

        long : length (record_in w (with_record w row k new) k) ≡ w
        long = record-size w (with_record w row k new) k there

        number : (i : ℕ) → i < w → get_or (record_in w (with_record w row k new) k) i 0 ≡ get_or new i 0
        number i l =
            record_number w (with_record w row k new) k i there l
            ∙ (ap (λ (r : List ℕ). get_or r (k * w + i) 0) (put_is h)
            ∙ sets_in new row (k * w) i (omega (arith, l, sized)) (omega (arith, sized, record-fits w row k h)))

    -- every other record stays
    pub put_other : (j : ℕ) → (j ≡ k → ⊥) → record_in w (with_record w row k new) j ≡ record_in w row j
    put_other j n = go (ltb j (records_in w row)) refl
      where
        number : (b : Bool) → ltb j k ≡ b → (i : ℕ) → i < w → get_or (with_record w row k new) (j * w + i) 0 ≡ get_or row (j * w + i) 0
        number true e i l = put_below (j * w + i) (omega (arith, before w j k (ltb-true j k e), l))
        number false e i l =
            let far : k < j = omega (arith, ltb-false j k e, n) in
            put_beyond (j * w + i) (omega (arith, before w k j far))

        go : (b : Bool) → ltb j (records_in w row) ≡ b → record_in w (with_record w row k new) j ≡ record_in w row j
        go false e =
            record-none w (with_record w row k new) j (omega (arith, ltb-false j (records_in w row) e, put_count))
            ∙ sym (record-none w row j (ltb-false j (records_in w row) e))
        go true e =
            let h : j < records_in w row = ltb-true j (records_in w row) e in
            let h' : j < records_in w (with_record w row k new) = omega (arith, h, put_count) in
            let size = record-size w (with_record w row k new) j h' in
            ext_get_or 0 (record_in w (with_record w row k new) j) (record_in w row j)
            (size ∙ sym (record-size w row j h))
            (λ i l.
            let low : i < w = omega (arith, l, size) in
            record_number w (with_record w row k new) j i h' low
            ∙ (number (ltb j k) refl i low ∙ sym (record_number w row j i h low)))

    -- what lies past the first n records, that one among them, stays
    pub put_past : (n : ℕ) → k < n → past_records w n (with_record w row k new) ≡ past_records w n row
    unfolding past_records
    put_past n h =
        ext_get_or 0 (drop (n * w) (with_record w row k new)) (drop (n * w) row)
        (length-drop (n * w) (with_record w row k new) ∙ (ap (λ (m : ℕ). m - n * w) put_length ∙ sym (length-drop (n * w) row)))
        (λ i l.
        get_or-drop (n * w) (with_record w row k new) i 0
        ∙ (put_beyond (n * w + i) (omega (arith, before w k n h)) ∙ sym (get_or-drop (n * w) row i 0)))

-- records one after the other, and more behind them
module _ (w : ℕ) (f : ℕ → List ℕ) (n : ℕ) (sized : (x : ℕ) → x < n → length (f x) ≡ w) (more : List ℕ) where
  pub rows_past : past_records w n (rows_to f n ++ more) ≡ more
  unfolding past_records
  rows_past = drop_at (rows_to f n) more (n * w) (rows_length_in f w n sized)

  pub rows_count : zero < w → n ≤ records_in w (rows_to f n ++ more)
  rows_count pos =
      (le-div_iff_mul-le {k = w} {x = n} {y = length (rows_to f n ++ more)} pos).1
      (omega (arith, length-append (rows_to f n) more, rows_length_in f w n sized))

  pub rows_first : first_records w n (rows_to f n ++ more) ≡ rows_to f n
  unfolding first_records
  rows_first = take_at (rows_to f n) more (n * w) (rows_length_in f w n sized)

  pub rows_record : zero < w → (x : ℕ) → x < n → record_in w (rows_to f n ++ more) x ≡ f x
  rows_record pos x l =
      record_is w (rows_to f n ++ more) x (omega (arith, l, rows_count pos)) ∙ rows_at_in f w n sized more x l

-- as many records as were laid
pub rows_exact : (w : ℕ) (f : ℕ → List ℕ) (n : ℕ) → ((x : ℕ) → x < n → length (f x) ≡ w) → zero < w → records_in w (rows_to f n) ≡ n
rows_exact w f n sized pos = ap (λ (k : ℕ). k / w) (rows_length_in f w n sized) ∙ mul-div_cancel n pos

-- the next record, behind those that are laid already
pub put_next :
    (w : ℕ) (f : ℕ → List ℕ) (k : ℕ)
    → ((x : ℕ) → length (f x) ≡ w) → (before : List ℕ) → k < records_in w before
    → with_record w (rows_to f k ++ past_records w k before) k (f k) ≡ rows_to f (k + 1) ++ past_records w (k + 1) before
unfolding past_records rows_to
put_next w f k sized before h =
    put_is w (laid ++ old) k (f k) (rw long h)
    ∙ (sets-eq (f k) (laid ++ old) (k * w) (omega (arith, long, sized k, room))
    ∙ (λ i. take_at laid old (k * w) front i ++ f k ++ behind i)
    ∙ rw (add-one k))
  where
    laid : List ℕ
    laid = rows_to f k

    old : List ℕ
    old = drop (k * w) before

    front : length laid ≡ k * w
    front = rows_length_in f w k (λ x l. sized x)

    room : k * w + w ≤ length before
    room = record-fits w before k h

    long : length (laid ++ old) ≡ length before
    long = omega (arith, length-append laid old, front, length-drop (k * w) before, room)

    next : (k + 1) * w ≡ k * w + w
    next = rw (add-one k) (suc-mul k w)

    behind : drop (k * w + length (f k)) (laid ++ old) ≡ drop ((k + 1) * w) before
    behind =
        sym (drop-drop (length (f k)) (k * w) (laid ++ old))
        ∙ (ap (drop (length (f k))) (drop_at laid old (k * w) front)
        ∙ (drop-drop (length (f k)) (k * w) before
        ∙ ap (λ (n : ℕ). drop n before) (ap (λ (n : ℕ). k * w + n) (sized k) ∙ sym next)))

-- stores in places that lie apart may be made in either order
set_sets : (b l : List ℕ) (i j x : ℕ) → (b' : Bool) → ltb i j ≡ b' → (b' ≡ false → j + length b ≤ i) → set (sets l j b) i x ≡ sets (set l i x) j b
set_sets [] l i j x s e h = refl
set_sets (y ∷ b) l i j x true e h =
    let low = ltb-true i j e in
    set_sets b (set l j y) i (suc j) x true (lt-ltb i (suc j) (omega arith)) (λ z. absurd (true≢false z))
    ∙ ap (λ (r : List ℕ). sets r (suc j) b) (set_comm l j i y x (λ q. omega arith))
set_sets (y ∷ b) l i j x false e h =
    let far = h refl in
    set_sets b (set l j y) i (suc j) x false (le-ltb i (suc j) (omega arith)) (λ z. omega arith)
    ∙ ap (λ (r : List ℕ). sets r (suc j) b) (set_comm l j i y x (λ q. omega arith))

sets_swap : (a b l : List ℕ) (i j : ℕ) → i + length a ≤ j → sets (sets l i a) j b ≡ sets (sets l j b) i a
sets_swap [] b l i j h = refl
sets_swap (x ∷ a) b l i j h =
    sets_swap a b (set l i x) (suc i) j (omega arith)
    ∙ ap (λ (r : List ℕ). sets r (suc i) a) (sym (set_sets b l i j x true (lt-ltb i j (omega arith)) (λ z. absurd (true≢false z))))

-- two records may be put in either order
pub put_swap :
    (w : ℕ) (row : List ℕ) (j k : ℕ) (a b : List ℕ)
    → (j ≡ k → ⊥) → length a ≡ w → length b ≡ w
    → with_record w (with_record w row j a) k b ≡ with_record w (with_record w row k b) j a
put_swap w row j k a b n p q = go (ltb j (records_in w row)) refl (ltb k (records_in w row)) refl
  where
    stores : (s : Bool) → ltb j k ≡ s → sets (sets row (j * w) a) (k * w) b ≡ sets (sets row (k * w) b) (j * w) a
    stores true e = sets_swap a b row (j * w) (k * w) (omega (arith, before w j k (ltb-true j k e), p))
    stores false e =
        let far : k < j = omega (arith, ltb-false j k e, n) in
        sym (sets_swap b a row (k * w) (j * w) (omega (arith, before w k j far, q)))

    go :
        (s : Bool)
        → ltb j (records_in w row) ≡ s → (t : Bool) → ltb k (records_in w row) ≡ t
        → with_record w (with_record w row j a) k b ≡ with_record w (with_record w row k b) j a
    go true e true f =
        let here = ltb-true j (records_in w row) e in
        let there = ltb-true k (records_in w row) f in
        put_is w (with_record w row j a) k b (omega (arith, there, put_count w row j a))
        ∙ (ap (λ (r : List ℕ). sets r (k * w) b) (put_is w row j a here)
        ∙ (stores (ltb j k) refl
        ∙ (sym (ap (λ (r : List ℕ). sets r (j * w) a) (put_is w row k b there))
        ∙ sym (put_is w (with_record w row k b) j a (omega (arith, here, put_count w row k b))))))
    go s e false f =
        let out = ltb-false k (records_in w row) f in
        put_none w (with_record w row j a) k b (omega (arith, out, put_count w row j a))
        ∙ ap (λ (r : List ℕ). with_record w r j a) (sym (put_none w row k b out))
    go false e true f =
        let out = ltb-false j (records_in w row) e in
        ap (λ (r : List ℕ). with_record w r k b) (put_none w row j a out)
        ∙ sym (put_none w (with_record w row k b) j a (omega (arith, out, put_count w row k b)))
