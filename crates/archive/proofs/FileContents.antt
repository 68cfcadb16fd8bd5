-- What stands in a file that the writer made: its blocks, and in them its records. Of every network. Assumes nothing.
use mathlib.Core.Path.{◌≡◌, refl, sym, subst, ap, ◌∙◌}
use mathlib.Core.List.{List, [], ◌++◌, append-nil}
use Prim.Native.Nat.{ℕ, suc, ◌+◌, ◌*◌, ◌-◌, ◌/◌, ◌%◌, ◌<◌}
use native.Mathlib.Nat.{mul-le-mul_right}
use native.Mathlib.Omega.{arith}
use lib.ListN.{length, take, drop, replicate, length-append, length-replicate}
use borrow.Author.Tests.{ne_eqb, le-leb, lt-leb}
use Rattle.edition.specs.Stored.{block_bytes, front_bytes, payload_bytes, header_kind, links_kind, table_kind, header_bytes, link_bytes, entry_bytes}
use Rattle.edition.specs.Stored.{headers_a_block, links_a_block, entries_a_block}
use Rattle.rows.specs.Count.{rows_to}
use Rattle.rows.proofs.Records.{rows_at, rows_length}
use Rattle.network.specs.Network.{Net}
use Rattle.swap.specs.Entry.{entry}
use Rattle.numbers.specs.Bytes.{bytes_of}
use Rattle.block.specs.Block.{record_bytes, front, filled, block}
use Rattle.record.specs.Record.{header_record, link_record, entry_record}
use Rattle.record.proofs.Putting.{header_size, link-size, entry-size}
use Rattle.archive.specs.declared.Part.{Part}
use Rattle.archive.specs.Parts.{blocks_for, link_blocks, block_count, part_of, part_at, link_place, entry_place}
use Rattle.archive.specs.Writer.{record_of, block_of, file_of}
use Rattle.archive.specs.Reader.{block_at}
use Rattle.archive.specs.Work.{held_bytes}
use Rattle.archive.proofs.Parting.{kind_size, Fit, part_fit}
use Rattle.archive.proofs.Pieces.{record_part}

module _ (g : Net) where
  -- every record has its size
  own-size : (kind r : ℕ) → length (record_of g kind r) ≡ held_bytes kind
  unfolding record_of
  own-size kind r = kind_size kind _ _ _ (header_size _ _ _) (link-size _) (entry-size _ _)

  sized : (p : Part) → Fit p → (r : ℕ) → length (record_of g p.kind (p.from + r)) ≡ record_bytes p.kind
  sized p f r = own-size p.kind (p.from + r) ∙ f.size

  -- the records of a part
  abbrev pub records_of : Part → List ℕ
  records_of p = rows_to (λ r. record_of g p.kind (p.from + r)) p.used

  pub records_size : (p : Part) → Fit p → length (records_of p) ≡ p.used * record_bytes p.kind
  records_size p f = rows_length (λ r. record_of g p.kind (p.from + r)) (record_bytes p.kind) (sized p f) p.used

  abbrev n : ℕ
  n = g.nodes

  abbrev m : ℕ
  m = g.links

  -- every block has 512 bytes
  pub block_size : (i : ℕ) → length (block_of g i) ≡ block_bytes
  unfolding block_of block front bytes_of filled
  block_size i =
      let f = part_fit n m i in
      omega (
        arith,
        f.room,
        records_size (part_at n m i) f,
        length-append (records_of (part_at n m i)) (replicate (payload_bytes - length (records_of (part_at n m i))) 0),
        length-replicate {A = ℕ} (payload_bytes - length (records_of (part_at n m i))) 0,
      )

  pub file_size : length (file_of g) ≡ block_count n m * block_bytes
  unfolding file_of
  file_size = rows_length (block_of g) block_bytes block_size (block_count n m)

  -- block i stands in place i
  pub block-there : (i : ℕ) → i < block_count n m → block_at (file_of g) i ≡ block_of g i
  unfolding file_of block_at
  block-there i l =
      ap (λ (s : List ℕ). take block_bytes (drop (i * block_bytes) s)) (sym (append-nil (rows_to (block_of g) (block_count n m))))
      ∙ rows_at (block_of g) block_bytes block_size (block_count n m) [] i l

  payload-there : (i : ℕ) → drop front_bytes (block_of g i) ≡ records_of (part_at n m i) ++ replicate (payload_bytes - length (records_of (part_at n m i))) 0
  unfolding block_of block front bytes_of filled
  payload-there i = refl

  -- record r of block i stands in its place
  record-there :
      (i : ℕ)
      → i < block_count n m → (p : Part) → part_at n m i ≡ p → (r : ℕ) → r < p.used
      → take (record_bytes p.kind) (drop (i * block_bytes + front_bytes + r * record_bytes p.kind) (file_of g))
      ≡ record_of g p.kind (p.from + r)
  record-there i l p e r h =
      let f = subst Fit e (part_fit n m i) in
      let size = record_bytes p.kind in
      sym (record_part (file_of g) i (r * size) size (omega (arith, f.room, mul-le-mul_right {m = suc r} {n = p.used} size h)))
      ∙ (ap (λ (s : List ℕ). take size (drop (r * size) (drop front_bytes s))) (block-there i l)
      ∙ (ap (λ (s : List ℕ). take size (drop (r * size) s))
      (payload-there i ∙ ap (λ (p : Part). records_of p ++ replicate (payload_bytes - length (records_of p)) 0) e)
      ∙ rows_at (λ r. record_of g p.kind (p.from + r)) size (sized p f) p.used (replicate (payload_bytes - length (records_of p)) 0) r h))

  -- the header's record
  pub header_there : take header_bytes (drop 8 (file_of g)) ≡ header_record n m g.search
  unfolding block_count part_at part_of record_of record_bytes
  header_there = record-there 0 (omega arith) (part_of header_kind headers_a_block 1 0) refl 0 (omega arith)

  -- the record of a link
  pub link-there : (e : ℕ) → e < m → take link_bytes (drop (link_place e) (file_of g)) ≡ link_record (g.link e)
  unfolding block_count blocks_for part_at part_of record_of record_bytes link_place
  link-there e l =
      let i = 1 + e / links_a_block in
      let r = e % links_a_block in
      let here : (i - 1) * links_a_block + r ≡ e = omega arith in
      let is : part_at n m i ≡ part_of links_kind links_a_block m (i - 1) =
      rw (ne_eqb i 0 (λ z. omega (arith, z)), le-leb i (link_blocks m) (omega (arith, l))) in
      record-there i (omega (arith, l)) (part_of links_kind links_a_block m (i - 1)) is r (omega (arith, l))
      ∙ ap (λ (k : ℕ). link_record (g.link k)) here

  -- the entry of a node
  pub entry-there : (x : ℕ) → x < n → take entry_bytes (drop (entry_place m x) (file_of g)) ≡ entry_record (g.parent x) (entry g x)
  unfolding block_count blocks_for part_at part_of record_of record_bytes entry_place
  entry-there x l =
      let i = 1 + link_blocks m + x / entries_a_block in
      let r = x % entries_a_block in
      let here : (i - 1 - link_blocks m) * entries_a_block + r ≡ x = omega arith in
      let is : part_at n m i ≡ part_of table_kind entries_a_block n (i - 1 - link_blocks m) =
      rw (ne_eqb i 0 (λ z. omega (arith, z)), lt-leb i (link_blocks m) (omega arith)) in
      record-there i (omega (arith, l)) (part_of table_kind entries_a_block n (i - 1 - link_blocks m)) is r (omega (arith, l))
      ∙ ap (λ (k : ℕ). entry_record (g.parent k) (entry g k)) here
