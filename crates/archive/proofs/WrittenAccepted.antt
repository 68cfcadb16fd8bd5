-- What the writer makes of a sound network within edition 1's limits is taken, wherever the lent rows have room. Assumes nothing.
use mathlib.Core.Path.{◌≡◌, refl, ap, ap₂, ◌∙◌}
use mathlib.Core.Bool.{false, not}
use mathlib.Core.List.{List, [], ◌∷◌}
use Prim.Native.Nat.{ℕ, ◌+◌, ◌*◌, ◌-◌, ◌%◌, ◌<◌, ◌≤◌, min}
use native.Mathlib.Omega.{arith}
use lib.Dec.{eqb}
use lib.ListN.{length, get_or, take, drop}
use borrow.Author.Tests.{eq-eqb, ne_eqb}
use Rattle.edition.specs.declared.Aim.{Aim}
use Rattle.edition.specs.Refusals.{Verdict, taken}
use Rattle.edition.specs.declared.Why.TheVariants.{BadLength, NoRoom, BadEntry}
use Rattle.edition.specs.Limits.{lowest_number, longest}
use Rattle.edition.specs.Stored.{edition_limits, by_number, block_bytes, table_kind, entry_bytes, entries_a_block}
use Rattle.rows.specs.Count.{rows_to}
use Rattle.rows.specs.First.{refuse_if, refuse_at, firstly, verdict_to}
use Rattle.rows.specs.Lists.{same}
use Rattle.rows.proofs.Refusing.{head_taken, rest-taken, both_taken, none_left, if_passes, at_passes, to_passes}
use Rattle.rows.proofs.Listed.{equal_same}
use Rattle.network.specs.Network.{Net, links_in, net_of}
use Rattle.network.specs.Records.{size_verdict}
use Rattle.sound.specs.Sound.{record_verdict, net_verdict}
use Rattle.swap.specs.Entry.{entry}
use Rattle.numbers.specs.Bytes.{bytes_of}
use Rattle.block.specs.Block.{block_verdict}
use Rattle.block.proofs.Whole.{Zeroed, sealed_sound}
use Rattle.record.specs.Record.{entry_record}
use Rattle.record.proofs.Putting.{entry-size}
use Rattle.archive.specs.Parts.{link_blocks, block_count, part_of, part_at, entry_place}
use Rattle.archive.specs.Writer.{record_of, block_of, file_of}
use Rattle.archive.specs.Reader.{search_read, net_read, block_refusal, bad_file_length, bad_entry, Rows, too_short, head_verdict, rest_verdict, read_verdict}
use Rattle.archive.proofs.Parting.{by_part, part_fit, part_such}
use Rattle.archive.proofs.Pieces.{row_get}
use Rattle.archive.proofs.FileContents.{records_of, records_size, file_size, block-there, entry-there}
use Rattle.archive.proofs.Returning.{nodes_written, links_written, depth_written, network_back}

module _ (g : Net) where
  abbrev n : ℕ
  n = g.nodes

  abbrev m : ℕ
  m = g.links

  entries_clean : (from used r : ℕ) → r < used → Zeroed (rows_to (λ r. record_of g table_kind (from + r)) used) r
  unfolding record_of entry_record bytes_of
  entries_clean from used r l =
      let at = row_get (λ r. record_of g table_kind (from + r)) entry_bytes (λ r. entry-size (g.parent (from + r)) (entry g (from + r))) used r in
      record { first = at 3 0 l (omega arith); second = at 10 0 l (omega arith); third = at 11 0 l (omega arith) }

  -- zeros where an entry has zeros
  part_clean : (i : ℕ) → (part_at n m i).kind ≡ table_kind → (r : ℕ) → r < (part_at n m i).used → Zeroed (records_of g (part_at n m i)) r
  unfolding part_of
  part_clean i =
      by_part (λ p. p.kind ≡ table_kind → (r : ℕ) → r < p.used → Zeroed (records_of g p) r) n m i
      (λ e q. absurd (omega (arith, q)))
      (λ s h q. absurd (omega (arith, q)))
      (λ h q. entries_clean ((i - 1 - link_blocks m) * entries_a_block) (min entries_a_block (n - (i - 1 - link_blocks m) * entries_a_block)))

  -- every block of the file is taken
  block-taken : (i : ℕ) → i < block_count n m → block_refusal (file_of g) n m i ≡ taken
  unfolding block_refusal block_of
  block-taken i l =
      let p = part_at n m i in
      ap (block_verdict p.kind i p.used) (block-there g i l)
      ∙ sealed_sound p.kind i p.used (records_of g p) (part_such n m i l) (records_size g p (part_fit n m i)) (part_clean i)

  header_taken : block_refusal (file_of g) 0 0 0 ≡ taken
  unfolding block_refusal part_at block_count
  header_taken = block-taken 0 (omega arith)

  even : bad_file_length (file_of g) ≡ false
  unfolding bad_file_length block_count
  even =
      let size = file_size g in
      rw (ne_eqb (length (file_of g)) 0 (λ z. omega (arith, z, size)), eq-eqb (length (file_of g) % block_bytes) 0 (omega (arith, size)))

  module _ (ok : net_verdict g ≡ taken) (fits : size_verdict edition_limits n m g.search ≡ taken) (low : g.search.rule ≡ lowest_number) where
    head_accepted : head_verdict (file_of g) ≡ taken
    unfolding head_verdict
    head_accepted =
        both_taken _ _ (if_passes _ BadLength 0 even)
        (both_taken _ _ header_taken
        (both_taken _ _
        (ap₂ (λ (a b : ℕ). size_verdict edition_limits a b (search_read (file_of g))) (nodes_written g ok) (links_written g ok)
        ∙ (ap (size_verdict edition_limits n m) (depth_written g ok low) ∙ fits))
        none_left))

    module _ (back : net_read (file_of g) ≡ g) (rows : Rows) (room : too_short n m rows ≡ false) where
      entry_fresh : (x : ℕ) → x < n → bad_entry (file_of g) x ≡ false
      unfolding bad_entry
      entry_fresh x l =
          ap (λ (h : Net). not (same (take entry_bytes (drop (entry_place h.links x) (file_of g))) (entry_record (h.parent x) (entry h x)))) back
          ∙ (ap (λ (s : List ℕ). not (same s (entry_record (g.parent x) (entry g x)))) (entry-there g x l)
          ∙ ap not (equal_same (entry_record (g.parent x) (entry g x))))

      rest_accepted : rest_verdict (file_of g) rows ≡ taken
      unfolding rest_verdict net_verdict
      rest_accepted =
          ap₂ named (nodes_written g ok) (links_written g ok)
          ∙ both_taken _ _ (if_passes _ BadLength 0 (ap not (eq-eqb (length (file_of g)) (block_count n m * block_bytes) (file_size g))))
          (both_taken _ _ (to_passes (block_refusal (file_of g) n m) (block_count n m) block-taken)
          (both_taken _ _ (ap record_verdict back ∙ head_taken _ _ (rest-taken _ _ ok))
          (both_taken _ _ (if_passes _ NoRoom 0 room) (both_taken _ _ (at_passes (bad_entry (file_of g)) n BadEntry entry_fresh) none_left))))
        where
          named : ℕ → ℕ → Verdict
          named a b =
              firstly
              (refuse_if (not (eqb (length (file_of g)) (block_count a b * block_bytes))) BadLength 0 ∷
              verdict_to (block_refusal (file_of g) a b) (block_count a b) ∷
              record_verdict (net_read (file_of g)) ∷
              refuse_if (too_short a b rows) NoRoom 0 ∷
              refuse_at (bad_entry (file_of g)) a BadEntry ∷ [])

      -- every check of the file passes
      pub all_accepted : read_verdict (file_of g) rows ≡ taken
      unfolding read_verdict
      all_accepted = both_taken _ _ head_accepted (both_taken _ _ rest_accepted none_left)

-- the file of a sound network within edition 1's limits, of rows whose numbers have 16 bits, is taken
pub written_accepted :
    (links parents : List ℕ) (aim : Aim)
    → net_verdict (net_of links parents (by_number aim)) ≡ taken
    → size_verdict edition_limits (length parents) (links_in links) (by_number aim) ≡ taken → ((i : ℕ) → get_or links i 0 ≤ longest)
    → (rows : Rows) → too_short (length parents) (links_in links) rows ≡ false
    → read_verdict (file_of (net_of links parents (by_number aim))) rows ≡ taken
unfolding net_of
written_accepted links parents aim ok fits held rows room =
    all_accepted (net_of links parents (by_number aim)) ok fits refl (network_back links parents aim ok held) rows room
