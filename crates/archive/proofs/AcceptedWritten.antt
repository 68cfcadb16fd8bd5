-- A file that is taken is byte for byte what the writer makes of what is read from it. Assumes nothing.
use mathlib.Core.Path.{◌≡◌, refl, sym, ap, ap₂, ◌∙◌}
use mathlib.Core.Bool.{Bool, true, false}
use mathlib.Core.List.{List}
use Prim.Native.Nat.{ℕ, suc, ◌+◌, ◌*◌, ◌-◌, ◌<◌, ◌≤◌, min}
use native.Mathlib.Nat.{mul-le-mul_right}
use native.Mathlib.Omega.{arith}
use lib.Dec.{eqb, leb, ltb}
use lib.ListN.{length, get_or, take, drop, length-take, get_or-eq_default}
use lib.Seq.{take_all, get_or-take, get_or-drop}
use borrow.Author.Tests.{eqb-true, eqb-false, not-false, ltb-true, ltb-false, leb-false}
use Rattle.edition.specs.Refusals.{taken}
use Rattle.edition.specs.declared.Why.TheVariants.{BadLength, BadEntry}
use Rattle.edition.specs.Stored.{block_bytes, front_bytes, header_kind, links_kind, table_kind, link_bytes, entry_bytes, headers_a_block, links_a_block}
use Rattle.edition.specs.Stored.{entries_a_block}
use Rattle.rows.specs.Count.{rows_to}
use Rattle.rows.proofs.Records.{rows_cong}
use Rattle.rows.proofs.Refusing.{head_taken, rest-taken, if_taken_lem, at_taken, to_taken}
use Rattle.rows.proofs.Listed.{same_equal}
use Rattle.swap.specs.Entry.{entry}
use Rattle.block.specs.Block.{record_bytes, block, block_verdict}
use Rattle.block.proofs.Sizes.{such_size}
use Rattle.block.proofs.Whole.{taken_such, block_only}
use Rattle.record.specs.Record.{entry_record}
use Rattle.archive.specs.Parts.{link_blocks, block_count, part_of, part_at, link_place, entry_place}
use Rattle.archive.specs.Writer.{record_of, block_of, file_of}
use Rattle.archive.specs.Reader.{nodes_read, links_read, net_read, block_at, block_refusal, bad_entry, Rows, rest_verdict, read_verdict}
use Rattle.archive.proofs.Pieces.{pieces, record_part}
use Rattle.archive.proofs.Reading.{nodes_read_lem, links_read_lem, link_back, header_back}

-- where a record stands, by its block and its place there
link-place : (i r : ℕ) → 0 < i → r < links_a_block → link_place ((i - 1) * links_a_block + r) ≡ i * block_bytes + front_bytes + r * link_bytes
unfolding link_place
link-place i r s l = omega arith

entry_place_lem :
    (m i r : ℕ)
    → link_blocks m < i → r < entries_a_block
    → entry_place m ((i - 1 - link_blocks m) * entries_a_block + r) ≡ i * block_bytes + front_bytes + r * entry_bytes
unfolding entry_place
entry_place_lem m i r s l = omega arith

module _ (file : List ℕ) (bytes : (i : ℕ) → get_or file i 0 < 256) where
  -- the bytes of a block are bytes
  block_bytes_lem : (i j : ℕ) → get_or (block_at file i) j 0 < 256
  unfolding block_at
  block_bytes_lem i j = go (ltb j block_bytes) refl
    where
      go : (b : Bool) → ltb j block_bytes ≡ b → get_or (take block_bytes (drop (i * block_bytes) file)) j 0 < 256
      go true e =
          omega (
            arith,
            get_or-take block_bytes (drop (i * block_bytes) file) j 0 (ltb-true j block_bytes e),
            get_or-drop (i * block_bytes) file j 0,
            bytes (i * block_bytes + j),
          )
      go false e =
          omega (
            arith,
            get_or-eq_default (take block_bytes (drop (i * block_bytes) file)) 0 {n = j}
                (omega (arith, length-take block_bytes (drop (i * block_bytes) file), ltb-false j block_bytes e)),
          )

  -- a block that is taken, of which every record is the writer's, is the writer's
  block_records :
      (kind i used : ℕ) (f : ℕ → List ℕ)
      → block_verdict kind i used (block_at file i) ≡ taken
      → ((r : ℕ)
      → r < used → f r ≡ take (record_bytes kind) (drop (i * block_bytes + front_bytes + r * record_bytes kind) file))
      → block_at file i ≡ block kind i used (rows_to f used)
  block_records kind i used f t h =
      let fits = such_size kind used (taken_such kind i used (block_at file i) t) in
      block_only kind i used (block_at file i) t (block_bytes_lem i)
      ∙ ap (block kind i used)
      (sym (pieces (record_bytes kind) (drop front_bytes (block_at file i)) used)
      ∙ rows_cong (λ r. take (record_bytes kind) (drop (r * record_bytes kind) (drop front_bytes (block_at file i)))) f used
      (λ r l.
      record_part file i (r * record_bytes kind) (record_bytes kind) (omega (arith, fits, mul-le-mul_right {m = suc r} {n = used} (record_bytes kind) l))
      ∙ sym (h r l)))

  abbrev n : ℕ
  n = nodes_read file

  abbrev m : ℕ
  m = links_read file

  -- what is known of a file that is taken
  record Whole : Type 0 where
    long : length file ≡ block_count n m * block_bytes
    blocks : (i : ℕ) → i < block_count n m → block_refusal file n m i ≡ taken
    fresh : (x : ℕ) → x < n → take entry_bytes (drop (entry_place m x) file) ≡ entry_record ((net_read file).parent x) (entry (net_read file) x)

  whole : (rows : Rows) → read_verdict file rows ≡ taken → Whole
  unfolding read_verdict rest_verdict bad_entry
  whole rows h =
      let rest = head_taken _ _ (rest-taken _ _ h) in
      let r1 = rest-taken _ _ rest in
      let r2 = rest-taken _ _ r1 in
      let r4 = rest-taken _ _ (rest-taken _ _ r2) in
      record {
        long = eqb-true (length file) (block_count n m * block_bytes) (not-false _ (if_taken_lem _ BadLength 0 (head_taken _ _ rest)));
        blocks = to_taken (block_refusal file n m) (block_count n m) (head_taken _ _ r1);
        fresh =
            λ x l.
            ap (λ (k : ℕ). take entry_bytes (drop (entry_place k x) file)) (sym (links_read_lem file))
            ∙ same_equal _ _ (not-false _ (at_taken (bad_entry file) n BadEntry (head_taken _ _ r4) x l));
      }

  module _ (w : Whole) (i : ℕ) (there : i < block_count n m) where
    inside : i * block_bytes + block_bytes ≤ length file
    inside = omega (arith, w.long, there)

    -- block i of the file, of the part that it is
    Same : Type 0
    Same =
        block_at file i
        ≡ block (part_at n m i).kind i (part_at n m i).used
        (rows_to (λ r. record_of (net_read file) (part_at n m i).kind ((part_at n m i).from + r)) (part_at n m i).used)

    is_taken : block_verdict (part_at n m i).kind i (part_at n m i).used (block_at file i) ≡ taken
    unfolding block_refusal
    is_taken = w.blocks i there

    header_same : eqb i 0 ≡ true → Same
    unfolding Same part_at part_of record_of record_bytes
    header_same e =
        let z : i ≡ 0 = eqb-true i 0 e in
        rw e
        (block_records header_kind i headers_a_block (λ r. record_of (net_read file) header_kind (0 * headers_a_block + r)) (rw e at is_taken)
        (λ r l.
        let at : front_bytes ≡ i * block_bytes + front_bytes + r * 8 = omega (arith, z, l) in
        header_back file bytes (omega (arith, inside)) ∙ ap (λ (k : ℕ). take 8 (drop k file)) at))

    links-same : eqb i 0 ≡ false → leb i (link_blocks m) ≡ true → Same
    unfolding Same part_at part_of record_of record_bytes
    links-same e f =
        let some : 0 < i = omega (arith, eqb-false i 0 e) in
        rw (e, f)
        (block_records links_kind i (min links_a_block (m - (i - 1) * links_a_block))
        (λ r. record_of (net_read file) links_kind ((i - 1) * links_a_block + r)) (rw (e, f) at is_taken)
        (λ r l.
        let at = link-place i r some (omega arith) in
        link_back file bytes ((i - 1) * links_a_block + r) (omega arith) (omega (arith, inside)) ∙ ap (λ (k : ℕ). take link_bytes (drop k file)) at))

    entries-same : eqb i 0 ≡ false → leb i (link_blocks m) ≡ false → Same
    unfolding Same part_at part_of record_of record_bytes
    entries-same e f =
        let past : link_blocks m < i = omega (arith, leb-false i (link_blocks m) f) in
        rw (e, f)
        (block_records table_kind i (min entries_a_block (n - (i - 1 - link_blocks m) * entries_a_block))
        (λ r. record_of (net_read file) table_kind ((i - 1 - link_blocks m) * entries_a_block + r)) (rw (e, f) at is_taken)
        (λ r l.
        let at = entry_place_lem m i r past (omega arith) in
        sym (w.fresh ((i - 1 - link_blocks m) * entries_a_block + r) (omega arith)) ∙ ap (λ (k : ℕ). take entry_bytes (drop k file)) at))

    block_same : block_at file i ≡ block_of (net_read file) i
    unfolding block_of Same
    block_same =
        go (eqb i 0) refl (leb i (link_blocks m)) refl ∙ ap₂ made (sym (nodes_read_lem file)) (sym (links_read_lem file))
      where
        made : ℕ → ℕ → List ℕ
        made n m =
            block (part_at n m i).kind i (part_at n m i).used
            (rows_to (λ r. record_of (net_read file) (part_at n m i).kind ((part_at n m i).from + r))
            (part_at n m i).used)

        go : (a : Bool) → eqb i 0 ≡ a → (b : Bool) → leb i (link_blocks m) ≡ b → Same
        go true e b f = header_same e
        go false e true f = links-same e f
        go false e false f = entries-same e f

  -- each stored entry of a file that is taken is the one worked out
  pub accepted_fresh :
      (rows : Rows)
      → read_verdict file rows ≡ taken → (x : ℕ) → x < nodes_read file
      → take entry_bytes (drop (entry_place (links_read file) x) file) ≡ entry_record ((net_read file).parent x) (entry (net_read file) x)
  accepted_fresh rows h x l = (whole rows h).fresh x l

  -- a file of bytes that is taken is what the writer makes of what was read
  pub accepted_is_written : (rows : Rows) → read_verdict file rows ≡ taken → file ≡ file_of (net_read file)
  unfolding file_of block_at
  accepted_is_written rows h =
      let w = whole rows h in
      sym (take_all (block_count n m * block_bytes) file (omega (arith, w.long)))
      ∙ (sym (pieces block_bytes file (block_count n m))
      ∙ (rows_cong (block_at file) (block_of (net_read file)) (block_count n m) (block_same w)
      ∙ ap₂ (λ (a b : ℕ). rows_to (block_of (net_read file)) (block_count a b)) (sym (nodes_read_lem file)) (sym (links_read_lem file))))

-- two files of bytes that are taken, with one network, are one file
pub one_file :
    (a b : List ℕ)
    → ((i : ℕ) → get_or a i 0 < 256) → ((i : ℕ) → get_or b i 0 < 256) → (rows_a rows_b : Rows) → read_verdict a rows_a ≡ taken
    → read_verdict b rows_b ≡ taken → net_read a ≡ net_read b → a ≡ b
one_file a b x y rows_a rows_b p q e = accepted_is_written a x rows_a p ∙ ap file_of e ∙ sym (accepted_is_written b y rows_b q)
