-- The loop that puts the records of a part one after the other. Assumes nothing.
use mathlib.Core.Path.{◌≡◌, refl, sym, ap, ◌∙◌}
use mathlib.Core.List.{List}
use Prim.Native.Nat.{ℕ, suc, ◌+◌, ◌*◌, ◌<◌, ◌≤◌}
use native.Mathlib.Nat.{mul-le-mul_right}
use native.Mathlib.Numerals.{add-one}
use native.Mathlib.Omega.{arith}
use lib.ListN.{length}
use lib.Seq.{sets, length-sets}
use borrow.Author.Tests.{le-leb}
use Rattle.edition.specs.declared.Search.{Search}
use Rattle.edition.specs.Stored.{front_bytes}
use Rattle.rows.specs.Count.{rows_to}
use Rattle.rows.proofs.Records.{rows_length}
use Rattle.record.specs.Record.{record_put}
use Rattle.numbers.proofs.Putting.{sets_behind}
use Rattle.record.proofs.Putting.{header_size, link-size, entry-size}
use Rattle.archive.specs.declared.Part.{Part}
use Rattle.archive.specs.Work.{held_bytes, record_by, Held}
use Rattle.archive.proofs.Parting.{kind_size}

-- every record of a kind has its size
pub record-size :
    (links parents : List ℕ) (search : Search) (entries : List ℕ) (kind r : ℕ)
    → length (record_by links parents search entries kind r) ≡ held_bytes kind
unfolding record_by
record-size links parents search entries kind r = kind_size kind _ _ _ (header_size _ _ search) (link-size _) (entry-size _ _)

-- a block with the first r records of a part behind its front
abbrev pub laid_to : (ℕ → List ℕ) → ℕ → List ℕ → ℕ → List ℕ
laid_to f from before r = sets before front_bytes (rows_to (λ i. f (from + i)) r)

pub laid_none : (f : ℕ → List ℕ) (from : ℕ) (before : List ℕ) → before ≡ laid_to f from before 0
unfolding rows_to
laid_none f from before = refl

module _ (f : ℕ → List ℕ) (size : ℕ) (sized : (i : ℕ) → length (f i) ≡ size) (from : ℕ) (before : List ℕ) (used : ℕ)
    (fits : front_bytes + used * size ≤ length before) where
  -- one more record, behind those that are put already
  pub laid_more : (r : ℕ) → r < used → record_put (front_bytes + r * size) size (f (from + r)) (laid_to f from before r) ≡ laid_to f from before (r + 1)
  unfolding record_put rows_to
  laid_more r l =
      let rows : length (rows_to (λ i. f (from + i)) r) ≡ r * size = rows_length (λ i. f (from + i)) size (λ i. sized (from + i)) r in
      let room : front_bytes + r * size + size ≤ length (laid_to f from before r) =
      omega (arith, length-sets before front_bytes (rows_to (λ i. f (from + i)) r), fits, mul-le-mul_right {m = suc r} {n = used} size l) in
      rw (le-leb (front_bytes + r * size + size) (length (laid_to f from before r)) room)
      (sets_behind (rows_to (λ i. f (from + i)) r) (f (from + r)) before front_bytes
      (front_bytes + r * size) (ap (λ k. front_bytes + k) (sym rows))
      ∙ ap (λ k. sets before front_bytes (rows_to (λ i. f (from + i)) k)) (sym (add-one r)))

-- one more record of a part
pub record_put_next :
    (links parents : List ℕ) (search : Search) (entries : List ℕ) (part : Part) (before : List ℕ) (r : ℕ)
    → Held part (length before) → r < part.used
    → record_put (front_bytes + r * held_bytes part.kind) (held_bytes part.kind)
    (record_by links parents search entries part.kind (part.from + r))
    (laid_to (record_by links parents search entries part.kind) part.from before r)
    ≡ laid_to (record_by links parents search entries part.kind) part.from before (r + 1)
record_put_next links parents search entries part before r held l =
    laid_more _ _ (record-size links parents search entries part.kind) part.from before part.used held.fits r l
