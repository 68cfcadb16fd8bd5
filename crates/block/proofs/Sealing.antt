-- A row becomes a block: front, zeros behind the records, check. Assumes nothing.
use mathlib.Core.Path.{◌≡◌, ap, ap₂, ◌∙◌}
use mathlib.Core.Bool.{false}
use mathlib.Core.List.{List, ◌∷◌, ◌++◌, append-nil}
use Prim.Native.Nat.{ℕ, ◌+◌, ◌*◌, ◌-◌, ◌≤◌}
use native.Mathlib.Omega.{arith}
use lib.ListN.{length, get_or, take, drop, replicate, length-drop, drop_of_length-le}
use lib.Seq.{length-take-le, sets, sets-eq, length-sets, drop-cons, take-add}
use borrow.Author.Tests.{eq-eqb}
use borrow.Rule.Slice.PartMut.{put_mid}
use Rattle.edition.specs.Stored.{block_bytes, front_bytes, payload_bytes}
use Rattle.numbers.specs.Bytes.{bytes_of}
use Rattle.block.specs.Bytes.{checksum}
use Rattle.block.specs.Block.{record_bytes, front, check_of, filled, block, no_such_block, sealed}
use Rattle.block.specs.Work.{with_front}
use Rattle.block.proofs.Sizes.{size_fits}

pub front_length : (kind number used : ℕ) (b : List ℕ) → length (with_front kind number used b) ≡ length b
unfolding with_front
front_length kind number used b = length-sets b 0 (front kind number used)

module _ (kind number used : ℕ) (b : List ℕ) where
  -- a row that is made a block
  pub sealed-is :
      length b ≡ block_bytes
      → no_such_block kind used ≡ false
      → block kind number used (take (used * record_bytes kind) (drop front_bytes b)) ≡ sealed kind number used b
  unfolding sealed
  sealed-is l h = rw (eq-eqb (length b) block_bytes l, h)

  module _ (l : length b ≡ block_bytes) (heard : no_such_block kind used ≡ false) (w : ℕ) (q : w ≡ record_bytes kind) (r : List ℕ)
      (e : r ≡ with_front kind number used b) where
    size : used * w ≤ payload_bytes
    size = size_fits kind used heard w q

    fronted : r ≡ front kind number used ++ get_or b 6 0 ∷ get_or b 7 0 ∷ drop front_bytes b
    unfolding with_front front bytes_of
    fronted =
        e
        ∙ (sets-eq (front kind number used) b 0 (omega arith)
        ∙ ap (λ (x : List ℕ). front kind number used ++ x)
        (drop-cons b 6 0 (omega arith) ∙ ap (λ (x : List ℕ). get_or b 6 0 ∷ x) (drop-cons b 7 0 (omega arith))))

    length-is : length r ≡ block_bytes
    length-is = ap length e ∙ front_length kind number used b ∙ l

    -- y is what stands behind the records once they are followed by zeros
    module _ (y : List ℕ) (f : y ≡ replicate (length (take (length r - (front_bytes + used * w)) (drop (front_bytes + used * w) r))) 0) where
      records : List ℕ
      records = take (used * record_bytes kind) (drop front_bytes b)

      abbrev cleared : List ℕ
      cleared = put_mid (front_bytes + used * w) (length r - (front_bytes + used * w)) r y

      zeros : y ≡ replicate (payload_bytes - used * w) 0
      zeros =
          let left = length-drop (front_bytes + used * w) r in
          f
          ∙ ap (λ (k : ℕ). replicate k 0)
          (length-take-le (length r - (front_bytes + used * w)) (drop (front_bytes + used * w) r) (omega (arith, left)) ∙ omega (arith, length-is))

      fills : take (used * w) (drop front_bytes b) ++ replicate (payload_bytes - used * w) 0 ≡ filled records
      unfolding filled records
      fills =
          let n = length-take-le (used * w) (drop front_bytes b) (omega (arith, size, length-drop front_bytes b)) in
          rw (← q, n)

      emptied : cleared ≡ front kind number used ++ get_or b 6 0 ∷ get_or b 7 0 ∷ filled records
      unfolding front bytes_of
      emptied =
          ap (λ (x : List ℕ). take (front_bytes + used * w) r ++ (y ++ x))
          (drop_of_length-le (drop (front_bytes + used * w) r) {i = length r - (front_bytes + used * w)}
          (omega (arith, length-drop (front_bytes + used * w) r)))
          ∙ (ap₂ (λ (x z : List ℕ). x ++ z) (take-add front_bytes (used * w) r) (append-nil y ∙ zeros)
          ∙ (ap (λ (x : List ℕ). (take front_bytes x ++ take (used * w) (drop front_bytes x)) ++ replicate (payload_bytes - used * w) 0) fronted
          ∙ ap (λ (x : List ℕ). front kind number used ++ get_or b 6 0 ∷ get_or b 7 0 ∷ x) fills))

      pub seal_is : (c : ℕ) → c ≡ check_of cleared → (z : List ℕ) → z ≡ sets cleared 6 (bytes_of 2 c) → z ≡ sealed kind number used b
      unfolding front bytes_of check_of block records
      seal_is c i z j =
          let check : c ≡ checksum (front kind number used ++ 0 ∷ 0 ∷ filled records) = i ∙ ap check_of emptied in
          j
          ∙ (ap₂ (λ (x : List ℕ) (v : ℕ). sets x 6 (bytes_of 2 v)) emptied check
          ∙ sealed-is l heard)
