-- What a file says, and what the reader refuses it for. Assumes nothing.
use Rattle.std.specs.Prelude.{Err, Ok, Result, Bool, not, ◌||◌, List, [], ◌∷◌, ◌++◌, ℕ, ◌+◌, ◌*◌, ◌%◌, eqb, ltb, length, take, drop}
use Rattle.edition.specs.declared.Search.{Search}
use Rattle.edition.specs.Refusals.{Verdict, if_taken}
use Rattle.edition.specs.declared.Why.TheVariants.{BadLength, NoRoom, BadEntry}
use Rattle.edition.specs.Stored.{edition_limits, by_number, block_bytes, entry_bytes}
use Rattle.rows.specs.Count.{rows_to}
use Rattle.rows.specs.First.{refuse_if, refuse_at, firstly, verdict_to}
use Rattle.rows.specs.Lists.{same}
use Rattle.entries.specs.Row.{entries_in, past_entries}
use Rattle.network.specs.declared.Link.{Link}
use Rattle.network.specs.Network.{Net, net_of, links_in, link_row, past_links}
use Rattle.network.specs.Records.{size_verdict}
use Rattle.sound.specs.Sound.{record_verdict}
use Rattle.swap.specs.Entry.{entry}
use Rattle.table.specs.Table.{table}
use Rattle.numbers.specs.Bytes.{number_in}
use Rattle.block.specs.Block.{block_verdict}
use Rattle.archive.specs.declared.Header.{Header}
use Rattle.edition.specs.declared.Refusal.{Refusal}
use Rattle.archive.specs.Parts.{block_count, part_at, link_place, entry_place}
use Rattle.record.specs.Record.{entry_record}

-- n, as the header says it.
unfoldable pub nodes_read : List ℕ → ℕ
nodes_read file = number_in file 8 2

-- m, as the header says it.
unfoldable pub links_read : List ℕ → ℕ
links_read file = number_in file 10 2

-- Root and depth, as the header says them, and tie rule 0, which every file means.
unfoldable pub search_read : List ℕ → Search
search_read file = by_number (record { root = number_in file 12 2; depth = number_in file 14 2 })

-- All that the header says.
unfoldable pub head_read : List ℕ → Header
head_read file = record { nodes = nodes_read file; links = links_read file; search = search_read file }

-- Link e as the file stores it: two ends, length and service mark, 2 bytes each.
unfoldable pub stored_link : List ℕ → ℕ → Link
stored_link file e =
    let at = link_place e in
    record {
      first = number_in file at 2;
      second = number_in file (at + 2) 2;
      length = number_in file (at + 4) 2;
      mark = number_in file (at + 6) 2;
    }

-- The row of links: the record of each.
unfoldable pub links_held : List ℕ → List ℕ
links_held file = rows_to (λ e. link_row (stored_link file e)) (links_read file)

-- The row of parents: the first number of each entry.
unfoldable pub parents_held : List ℕ → List ℕ
parents_held file = rows_to (λ x. number_in file (entry_place (links_read file) x) 2 ∷ []) (nodes_read file)

-- The network that a file holds.
unfoldable pub net_read : List ℕ → Net
net_read file = net_of (links_held file) (parents_held file) (search_read file)

-- The bytes of block i of a file.
unfoldable pub block_at : List ℕ → ℕ → List ℕ
block_at file i = take block_bytes (drop (i * block_bytes) file)

-- What block i is refused for in a file of n nodes and m links.
unfoldable pub block_refusal : List ℕ → ℕ → ℕ → ℕ → Verdict
block_refusal file n m i = let p = part_at n m i in block_verdict p.kind i p.used (block_at file i)

-- 20: the file is empty or not a multiple of 512 bytes.
unfoldable pub bad_file_length : List ℕ → Bool
bad_file_length file = eqb (length file) 0 || not (eqb (length file % block_bytes) 0)

-- 24: the stored entry of x is not the one worked out.
unfoldable pub bad_entry : List ℕ → ℕ → Bool
bad_entry file x =
    let g = net_read file in
    not (same (take entry_bytes (drop (entry_place g.links x) file)) (entry_record (g.parent x) (entry g x)))

-- The three lent rows: of links, parents and entries.
pub record Rows : Type 0 where
  pub links : List ℕ
  pub parents : List ℕ
  pub entries : List ℕ

-- 10: a lent row is too short.
unfoldable pub too_short : ℕ → ℕ → Rows → Bool
too_short n m rows =
    ltb (links_in rows.links) m || ltb (length rows.parents) n || ltb (entries_in rows.entries) n

-- The length, the header's block, and 1 to 4 from its numbers at edition 1's limits.
unfoldable pub head_verdict : List ℕ → Verdict
head_verdict file =
    firstly
    (refuse_if (bad_file_length file) BadLength 0 ∷
    block_refusal file 0 0 0 ∷
    size_verdict edition_limits (nodes_read file) (links_read file) (search_read file) ∷ [])

-- The number of blocks; then block by block; then 5 to 9, 10 and 24.
unfoldable pub rest_verdict : List ℕ → Rows → Verdict
rest_verdict file rows =
    let n = nodes_read file in
    let m = links_read file in
    firstly
    (refuse_if (not (eqb (length file) (block_count n m * block_bytes))) BadLength 0 ∷
    verdict_to (block_refusal file n m) (block_count n m) ∷
    record_verdict (net_read file) ∷
    refuse_if (too_short n m rows) NoRoom 0 ∷
    refuse_at (bad_entry file) n BadEntry ∷ [])

-- The order for a file.
unfoldable pub read_verdict : List ℕ → Rows → Verdict
read_verdict file rows = let rest = rest_verdict file rows in firstly (head_verdict file ∷ rest ∷ [])

-- What the header says where the verdict is taken, else the refusal.
abbrev pub read_if : Verdict → Header → Result Header Refusal
read_if (Ok _) head = Ok head
read_if (Err r) head = Err r

-- What the reader answers: n, m, root, depth and tie rule 0, or the refusal.
unfoldable pub read_answer : List ℕ → Rows → Result Header Refusal
read_answer file rows = read_if (read_verdict file rows) (head_read file)

-- What the lent rows then hold: links, parents and entries of the file, and what lay past them; on a refusal what they held.
unfoldable pub rows_read : List ℕ → Rows → Rows
rows_read file rows =
    let n = nodes_read file in
    let m = links_read file in
    let new : Rows =
    record {
      links = links_held file ++ past_links m rows.links;
      parents = parents_held file ++ drop n rows.parents;
      entries = table (net_read file) ++ past_entries n rows.entries;
    } in
    if_taken (read_verdict file rows) new rows
