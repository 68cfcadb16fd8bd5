-- A block is taken only where it is the one that the writer makes of its records, and what the writer makes of records with
-- clean filler is taken. Assumes nothing.
use mathlib.Core.Path.{◌≡◌, refl, sym, ap, ap₂, ◌∙◌}
use mathlib.Core.Bool.{Bool, true, false, not, ◌&&◌}
use mathlib.Core.List.{List, ◌∷◌, ◌++◌}
use Prim.Native.Nat.{ℕ, ◌+◌, ◌*◌, ◌-◌, ◌/◌, ◌%◌, ◌<◌, ◌≤◌}
use native.Mathlib.Omega.{arith}
use lib.Dec.{eqb}
use lib.ListN.{length, get_or, take, drop, replicate, length-append, length-drop, length-replicate, get_or-replicate, take-append-drop, get_or-append}
use lib.Seq.{drop-cons, drop-drop, get_or-drop, get_or-take, ext_get_or, length-take-le, get_or-append-add}
use borrow.Author.Tests.{eq-eqb, eqb-true, not-false}
use Rattle.edition.specs.Refusals.{taken}
use Rattle.edition.specs.declared.Why.TheVariants.{BadLength, BadCheck, BadBlock}
use Rattle.edition.specs.Stored.{block_bytes, front_bytes, payload_bytes, table_kind, entry_bytes}
use Rattle.rows.specs.Count.{some_to}
use Rattle.rows.specs.Lists.{same}
use Rattle.rows.proofs.Best.{some_none, none_some}
use Rattle.rows.proofs.Listed.{same_equal, equal_same}
use Rattle.rows.proofs.Refusing.{head_taken, rest-taken, both_taken, none_left, if_taken_lem, if_passes}
use Rattle.rows.proofs.Tests.{or_false, or3_false}
use Rattle.numbers.specs.Bytes.{bytes_of, number_in}
use Rattle.numbers.proofs.Getting.{number_two}
use Rattle.block.specs.Bytes.{checksum, dirty}
use Rattle.block.specs.Block.{record_bytes, front, check_of, filled, block, bad_check, dirty_entry, bad_filler, no_such_block, bad_block, block_verdict, sealed}
use Rattle.block.proofs.Sizes.{such_size}
use Rattle.block.proofs.Judging.{taken-length}
use Rattle.block.proofs.Sealing.{sealed-is}

-- bytes that are clean are zeros
zeros : (s : List ℕ) (i k : ℕ) → i + k ≡ length s → dirty s i k ≡ false → drop i s ≡ replicate k 0
unfolding dirty
zeros s i k l h =
    ext_get_or 0 (drop i s) (replicate k 0) (omega (arith, length-drop i s, length-replicate {A = ℕ} k 0))
    (λ j m.
    let low : j < k = omega (arith, length-drop i s) in
    get_or-drop i s j 0
    ∙ (eqb-true (get_or s (i + j) 0) 0 (not-false _ (some_none (λ j. not (eqb (get_or s (i + j) 0) 0)) k h j low))
    ∙ sym (get_or-replicate k j 0 0 low)))

-- what a block that is taken holds
module _ (kind number used : ℕ) (b : List ℕ) (h : block_verdict kind number used b ≡ taken) where
  taken_check : number_in b 6 2 ≡ check_of b
  unfolding block_verdict bad_check
  taken_check =
      eqb-true (number_in b 6 2) (check_of b)
      (not-false _ (if_taken_lem (bad_check b) BadCheck number (head_taken _ _ (rest-taken _ _ h))))

  sound : bad_block kind number used b ≡ false
  unfolding block_verdict
  sound = if_taken_lem (bad_block kind number used b) BadBlock number (head_taken _ _ (rest-taken _ _ (rest-taken _ _ h)))

  parts : (no_such_block kind used ≡ false) × (not (same (take 6 b) (front kind number used)) ≡ false) × (bad_filler kind used b ≡ false)
  unfolding bad_block
  parts = or3_false (no_such_block kind used) (not (same (take 6 b) (front kind number used))) (bad_filler kind used b) sound

  pub taken_such : no_such_block kind used ≡ false
  taken_such = parts.0

  taken-front : take 6 b ≡ front kind number used
  taken-front = same_equal (take 6 b) (front kind number used) (not-false _ parts.1)

  taken_unused : drop (front_bytes + used * record_bytes kind) b ≡ replicate (payload_bytes - used * record_bytes kind) 0
  unfolding bad_filler
  taken_unused =
      zeros b (front_bytes + used * record_bytes kind) (payload_bytes - used * record_bytes kind)
      (omega (arith, such_size kind used taken_such, taken-length kind number used b h))
      (or_false _ _ parts.2).0

  records : List ℕ
  records = take (used * record_bytes kind) (drop front_bytes b)

  taken-payload : drop front_bytes b ≡ filled records
  unfolding filled records
  taken-payload =
      let size = such_size kind used taken_such in
      let n = length-take-le (used * record_bytes kind) (drop front_bytes b) (omega (arith, length-drop front_bytes b, taken-length kind number used b h)) in
      sym (take-append-drop (used * record_bytes kind) (drop front_bytes b))
      ∙ ap (λ (y : List ℕ). take (used * record_bytes kind) (drop front_bytes b) ++ y)
      (drop-drop (used * record_bytes kind) front_bytes b
      ∙ (taken_unused ∙ ap (λ (k : ℕ). replicate (payload_bytes - k) 0) (sym n)))

  -- a block that is taken is the one that holds its records
  pub block_only : ((i : ℕ) → get_or b i 0 < 256) → b ≡ block kind number used (take (used * record_bytes kind) (drop front_bytes b))
  unfolding block front check_of bytes_of records
  block_only bytes =
      let l = taken-length kind number used b h in
      let v : check_of b ≡ checksum (front kind number used ++ 0 ∷ 0 ∷ filled records) =
      ap₂ (λ (x y : List ℕ). checksum (x ++ 0 ∷ 0 ∷ y)) taken-front taken-payload in
      let two = number_two b 6 in
      let is = taken_check in
      let high : get_or b 6 0 ≡ check_of b / 256 % 256 = omega (arith, bytes 6, bytes 7) in
      let low : get_or b 7 0 ≡ check_of b % 256 = omega (arith, bytes 6, bytes 7) in
      sym (take-append-drop 6 b)
      ∙ (ap₂ (λ (x y : List ℕ). x ++ y) taken-front
      (drop-cons b 6 0 (omega arith)
      ∙ (ap (λ (x : List ℕ). get_or b 6 0 ∷ x) (drop-cons b 7 0 (omega arith))
      ∙ (ap₂ (λ (x y : ℕ). x ∷ y ∷ drop front_bytes b) high low
      ∙ ap₂ (λ (x : ℕ) (y : List ℕ). x / 256 % 256 ∷ x % 256 ∷ y) v taken-payload))))

-- the bytes of entry r that are to be 0 are
pub record Zeroed (records : List ℕ) (r : ℕ) : Type 0 where
  pub first : get_or records (r * entry_bytes + 3) 0 ≡ 0
  pub second : get_or records (r * entry_bytes + 10) 0 ≡ 0
  pub third : get_or records (r * entry_bytes + 11) 0 ≡ 0

-- what the writer makes of records is taken
module _ (kind number used : ℕ) (records : List ℕ) (heard : no_such_block kind used ≡ false) (n : length records ≡ used * record_bytes kind) where
  made : List ℕ
  made = block kind number used records

  made_payload : drop front_bytes made ≡ filled records
  unfolding made block front bytes_of
  made_payload = refl

  made_length : length made ≡ block_bytes
  unfolding made block front bytes_of filled
  made_length =
      omega (
        arith,
        such_size kind used heard,
        length-append records (replicate (payload_bytes - length records) 0),
        length-replicate {A = ℕ} (payload_bytes - length records) 0,
      )

  made_check : number_in made 6 2 ≡ check_of made
  unfolding made block front bytes_of check_of number_in checksum
  made_check = omega arith

  made_at : (i : ℕ) → get_or made (front_bytes + i) 0 ≡ get_or (filled records) i 0
  made_at i = sym (get_or-drop front_bytes made i 0) ∙ ap (λ (r : List ℕ). get_or r i 0) made_payload

  made_record : (i : ℕ) → i < length records → get_or made (front_bytes + i) 0 ≡ get_or records i 0
  unfolding filled
  made_record i l = made_at i ∙ get_or-append records (replicate (payload_bytes - length records) 0) 0 i l

  made_unused : dirty made (front_bytes + used * record_bytes kind) (payload_bytes - used * record_bytes kind) ≡ false
  unfolding dirty filled
  made_unused =
      none_some (λ j. not (eqb (get_or made (front_bytes + used * record_bytes kind + j) 0) 0)) (payload_bytes - used * record_bytes kind)
      (λ j l.
      let here : front_bytes + used * record_bytes kind + j ≡ front_bytes + (length records + j) = omega (arith, n) in
      ap not
      (eq-eqb (get_or made (front_bytes + used * record_bytes kind + j) 0) 0
      (ap (λ (i : ℕ). get_or made i 0) here
      ∙ (made_at (length records + j)
      ∙ (get_or-append-add records (replicate (payload_bytes - length records) 0) j 0
      ∙ get_or-replicate (payload_bytes - length records) j 0 0 (omega (arith, n)))))))

  -- an entry whose zeros are 0
  module _ (r : ℕ) (inside : (r + 1) * entry_bytes ≤ length records) where
    clean_at :
        (k i j : ℕ)
        → k + i ≡ front_bytes + (r * entry_bytes + j) → j < entry_bytes → get_or records (r * entry_bytes + j) 0 ≡ 0
        → not (eqb (get_or made (k + i) 0) 0) ≡ false
    clean_at k i j q l h =
        ap not
        (eq-eqb (get_or made (k + i) 0) 0
        (ap (λ (x : ℕ). get_or made x 0) q ∙ (made_record (r * entry_bytes + j) (omega (arith, inside)) ∙ h)))

    clean_entry : Zeroed records r → dirty_entry made r ≡ false
    unfolding dirty_entry dirty some_to
    clean_entry z =
        rw (
          clean_at (front_bytes + r * entry_bytes + 3) 0 3 (omega arith) (omega arith) z.first,
          clean_at (front_bytes + r * entry_bytes + 10) 0 10 (omega arith) (omega arith) z.second,
          clean_at (front_bytes + r * entry_bytes + 10) 1 11 (omega arith) (omega arith) z.third,
        )

  made_front : same (take 6 made) (front kind number used) ≡ true
  unfolding made block front bytes_of
  made_front = equal_same (front kind number used)

  module _ (clean : kind ≡ table_kind → (r : ℕ) → r < used → Zeroed records r) where
    made_entries : kind ≡ table_kind → some_to (dirty_entry made) used ≡ false
    unfolding record_bytes
    made_entries q =
        let size : length records ≡ used * entry_bytes = rw q at n in
        none_some (dirty_entry made) used (λ r l. clean_entry r (omega arith) (clean q r l))

    made_filler : bad_filler kind used made ≡ false
    unfolding bad_filler
    made_filler = rw made_unused (go (eqb kind table_kind) refl)
      where
        go : (t : Bool) → eqb kind table_kind ≡ t → (eqb kind table_kind && some_to (dirty_entry made) used) ≡ false
        go true e = rw (e, made_entries (eqb-true kind table_kind e))
        go false e = rw e

    made_whole : bad_block kind number used made ≡ false
    unfolding bad_block
    made_whole = rw (heard, made_front, made_filler)

    -- the block of records is taken: as many as the count says, and in a table with zeros where an entry has zeros
    pub sealed_sound : block_verdict kind number used (block kind number used records) ≡ taken
    unfolding block_verdict made bad_check
    sealed_sound =
        both_taken _ _ (if_passes (not (eqb (length made) block_bytes)) BadLength 0 (ap not (eq-eqb (length made) block_bytes made_length)))
        (both_taken _ _ (if_passes (bad_check made) BadCheck number (ap not (eq-eqb (number_in made 6 2) (check_of made) made_check)))
        (both_taken _ _ (if_passes (bad_block kind number used made) BadBlock number made_whole) none_left))

-- so is a row that is made a block
pub seal_taken :
    (kind number used : ℕ) (b : List ℕ)
    → length b ≡ block_bytes → no_such_block kind used ≡ false
    → (kind ≡ table_kind → (r : ℕ) → r < used → Zeroed (take (used * record_bytes kind) (drop front_bytes b)) r)
    → block_verdict kind number used (sealed kind number used b) ≡ taken
seal_taken kind number used b l h clean =
    let size = such_size kind used h in
    rw (← sealed-is kind number used b l h)
    (sealed_sound kind number used (take (used * record_bytes kind) (drop front_bytes b)) h
    (length-take-le (used * record_bytes kind) (drop front_bytes b) (omega (arith, length-drop front_bytes b)))
    clean)

-- what a block that is taken holds in its filler: zeros inside a table's entries
module _ (kind number used : ℕ) (b : List ℕ) (h : block_verdict kind number used b ≡ taken) where
  entry_clean : kind ≡ table_kind → (r : ℕ) → r < used → dirty_entry b r ≡ false
  unfolding bad_filler
  entry_clean q r l =
      let inner : (eqb kind table_kind && some_to (dirty_entry b) used) ≡ false =
      (or_false (dirty b (front_bytes + used * record_bytes kind) (payload_bytes - used * record_bytes kind)) _
      (parts kind number used b h).2).1 in
      some_none (dirty_entry b) used (rw (eq-eqb kind table_kind q) at inner) r l

  clean_byte : (i k j : ℕ) → dirty b i k ≡ false → j < k → get_or b (i + j) 0 ≡ 0
  unfolding dirty
  clean_byte i k j d l = eqb-true (get_or b (i + j) 0) 0 (not-false _ (some_none (λ j. not (eqb (get_or b (i + j) 0) 0)) k d j l))

  record_byte : (i k : ℕ) → front_bytes + i ≡ k → i < used * record_bytes kind → get_or b k 0 ≡ 0 → get_or (records kind number used b h) i 0 ≡ 0
  unfolding records
  record_byte i k q l z =
      get_or-take (used * record_bytes kind) (drop front_bytes b) i 0 l ∙ (get_or-drop front_bytes b i 0 ∙ (ap (λ (k : ℕ). get_or b k 0) q ∙ z))

  -- the records of a table's block have zeros where an entry has zeros
  pub taken_zeroed : kind ≡ table_kind → (r : ℕ) → r < used → Zeroed (take (used * record_bytes kind) (drop front_bytes b)) r
  unfolding dirty_entry record_bytes records
  taken_zeroed q r l =
      let at = front_bytes + r * entry_bytes in
      let d = or_false (dirty b (at + 3) 1) (dirty b (at + 10) 2) (entry_clean q r l) in
      let size : record_bytes kind ≡ entry_bytes = rw q in
      let inside : (j : ℕ) → j < entry_bytes → r * entry_bytes + j < used * record_bytes kind =
      λ j m. omega (arith, ap (λ (k : ℕ). used * k) size, l, m) in
      record {
        first = record_byte (r * entry_bytes + 3) (at + 3 + 0) (omega arith) (inside 3 (omega arith)) (clean_byte (at + 3) 1 0 d.0 (omega arith));
        second = record_byte (r * entry_bytes + 10) (at + 10 + 0) (omega arith) (inside 10 (omega arith)) (clean_byte (at + 10) 2 0 d.1 (omega arith));
        third = record_byte (r * entry_bytes + 11) (at + 10 + 1) (omega arith) (inside 11 (omega arith)) (clean_byte (at + 10) 2 1 d.1 (omega arith));
      }

-- the one block of a kind, a number and a used count that holds these records: one up to as many as the kind holds, each of the
-- kind's size, in a table with zeros where an entry has zeros
pub record OneBlock (kind number used : ℕ) (b records : List ℕ) : Type 0 where
  pub counted : no_such_block kind used ≡ false
  pub size : length records ≡ used * record_bytes kind
  pub zeroed : kind ≡ table_kind → (r : ℕ) → r < used → Zeroed records r
  pub is : b ≡ block kind number used records

-- bytes are taken as a block where they are the one block of some records, and nowhere else
pub taken-one :
    (kind number used : ℕ) (b : List ℕ)
    → ((i : ℕ) → get_or b i 0 < 256) → block_verdict kind number used b ≡ taken
    → OneBlock kind number used b (take (used * record_bytes kind) (drop front_bytes b))
taken-one kind number used b bytes h =
    record {
      counted = taken_such kind number used b h;
      size =
          length-take-le (used * record_bytes kind) (drop front_bytes b)
          (omega (arith, length-drop front_bytes b, taken-length kind number used b h, such_size kind used (taken_such kind number used b h)));
      zeroed = taken_zeroed kind number used b h;
      is = block_only kind number used b h bytes;
    }

pub one-taken : (kind number used : ℕ) (b records : List ℕ) → OneBlock kind number used b records → block_verdict kind number used b ≡ taken
one-taken kind number used b records o =
    ap (block_verdict kind number used) o.is ∙ sealed_sound kind number used records o.counted o.size o.zeroed
