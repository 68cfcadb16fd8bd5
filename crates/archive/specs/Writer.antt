-- The one file of a network and depth, and what the writer answers. A file has no place for a tie rule: the network is one under rule 0,
-- since writer and reader name no other (`by_number`). Assumes nothing.
use Rattle.std.specs.Prelude.{Err, Ok, Result, cond, List, [], ◌∷◌, ◌++◌, ℕ, ◌+◌, ◌*◌, eqb, ltb, length, drop}
use Rattle.edition.specs.Refusals.{Verdict, if_taken}
use Rattle.edition.specs.declared.Why.TheVariants.{NoRoom}
use Rattle.edition.specs.Stored.{block_bytes, header_kind, links_kind}
use Rattle.rows.specs.Count.{rows_to}
use Rattle.rows.specs.First.{refuse_if, firstly}
use Rattle.network.specs.Network.{Net}
use Rattle.sound.specs.Sound.{net_verdict}
use Rattle.swap.specs.Entry.{entry}
use Rattle.block.specs.Block.{block}
use Rattle.record.specs.Record.{header_record, link_record, entry_record}
use Rattle.edition.specs.declared.Refusal.{Refusal}
use Rattle.archive.specs.Parts.{block_count, part_at}

-- Record r of a kind.
unfoldable pub record_of : Net → ℕ → ℕ → List ℕ
record_of g kind r =
    let header = header_record g.nodes g.links g.search in
    let link = link_record (g.link r) in
    let own = entry_record (g.parent r) (entry g r) in
    cond (eqb kind header_kind) header (cond (eqb kind links_kind) link own)

-- Block i of the file.
unfoldable pub block_of : Net → ℕ → List ℕ
block_of g i =
    let p = part_at g.nodes g.links i in
    block p.kind i p.used (rows_to (λ r. record_of g p.kind (p.from + r)) p.used)

-- The file: its blocks in number order.
unfoldable pub file_of : Net → List ℕ
file_of g = rows_to (block_of g) (block_count g.nodes g.links)

-- The file's length.
unfoldable pub file_length : Net → ℕ
file_length g = block_count g.nodes g.links * block_bytes

-- 1 to 9, then 10 where fewer bytes are lent than the file needs.
unfoldable pub write_verdict : Net → List ℕ → Verdict
write_verdict g row = firstly (net_verdict g ∷ refuse_if (ltb (length row) (file_length g)) NoRoom 0 ∷ [])

-- The file's length where the verdict is taken, else the refusal.
abbrev pub write_if : Verdict → ℕ → Result ℕ Refusal
write_if (Ok _) bytes = Ok bytes
write_if (Err r) bytes = Err r

-- What the writer answers: the file's length, or the refusal.
unfoldable pub write_answer : Net → List ℕ → Result ℕ Refusal
write_answer g row = write_if (write_verdict g row) (file_length g)

-- What the lent bytes then hold: the file and what lay past it, or on a refusal what they held.
unfoldable pub written_row : Net → List ℕ → List ℕ
written_row g row = let new = file_of g ++ drop (file_length g) row in if_taken (write_verdict g row) new row
