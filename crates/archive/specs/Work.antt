-- What private functions of this crate promise each other. No public promise cites this page. Assumes nothing.
use Rattle.std.specs.Prelude.{Bool, cond, not, ◌≡◌, List, [], ◌∷◌, ◌++◌, ℕ, ◌+◌, ◌*◌, ◌<◌, ◌≤◌, eqb, length, get_or, take, drop}
use Rattle.std.proofs.lemmas.List.Edits.{sets}
use Rattle.edition.specs.declared.Search.{Search}
use Rattle.edition.specs.Refusals.{Verdict, taken}
use Rattle.edition.specs.declared.Why.TheVariants.{BadLength, NoRoom, BadEntry}
use Rattle.rows.specs.First.{refuse_if, refuse_at, firstly, verdict_to}
use Rattle.edition.specs.Limits.{no_link, link_limit}
use Rattle.edition.specs.Stored.{edition_limits, block_bytes, front_bytes, header_kind, links_kind, header_bytes, link_bytes, entry_bytes}
use Rattle.rows.specs.Count.{rows_to}
use Rattle.rows.specs.Lists.{same}
use Rattle.swap.specs.Entry.{entry}
use Rattle.entries.specs.Row.{entry_row, entry_at, past_entries}
use Rattle.network.specs.Network.{Net, links_in, link_in, link_row, past_links}
use Rattle.sound.specs.Sound.{net_verdict}
use Rattle.table.specs.Table.{table}
use Rattle.record.specs.Record.{header_record, link_record, entry_record}
use Rattle.numbers.specs.Bytes.{number_in}
use Rattle.archive.specs.declared.Part.{Part}
use Rattle.network.specs.Records.{size_verdict}
use Rattle.archive.specs.declared.Header.{Header}
use Rattle.archive.specs.Parts.{block_count, entry_place}
use Rattle.archive.specs.Reader.{nodes_read, links_read, search_read, head_read, stored_link, block_refusal, head_verdict}

-- bytes a record of a kind; what is neither header nor link is an entry
unfoldable pub held_bytes : ℕ → ℕ
held_bytes kind = cond (eqb kind header_kind) header_bytes (cond (eqb kind links_kind) link_bytes entry_bytes)

-- record r of a kind, by the lent rows and a row of entries
unfoldable pub record_by : List ℕ → List ℕ → Search → List ℕ → ℕ → ℕ → List ℕ
record_by links parents search entries kind r =
    let header = header_record (length parents) (links_in links) search in
    let link = link_record (link_in links r) in
    let own = entry_record (get_or parents r no_link) (entry_at entries r) in
    cond (eqb kind header_kind) header (cond (eqb kind links_kind) link own)

-- a block with the records of a part behind its front
unfoldable pub laid : (ℕ → List ℕ) → Part → List ℕ → List ℕ
laid f part row = sets row front_bytes (rows_to (λ r. f (part.from + r)) part.used)

-- a part whose records there are, and that a block of so many bytes holds
pub record Held (part : Part) (room : ℕ) : Type 0 where
  pub low : part.from + part.used ≤ link_limit
  pub fits : front_bytes + part.used * held_bytes part.kind ≤ room

-- a sound network, and a row that begins with its table
pub record Tabled (g : Net) (entries : List ℕ) : Type 0 where
  pub ok : net_verdict g ≡ taken
  pub more : List ℕ
  pub is : entries ≡ table g ++ more

-- a row that begins with the records of the first m links of a file
unfoldable pub links_from : List ℕ → ℕ → List ℕ → List ℕ
links_from file m row = rows_to (λ e. link_row (stored_link file e)) m ++ past_links m row

-- the parent link of x in a file of m links
unfoldable pub parent_number : List ℕ → ℕ → ℕ → ℕ
parent_number file m x = number_in file (entry_place m x) 2

-- the stored entry of x is not the one of a row of entries
unfoldable pub bad_by : List ℕ → ℕ → List ℕ → List ℕ → ℕ → Bool
bad_by file m parents entries x =
    not (same (take entry_bytes (drop (entry_place m x) file)) (entry_record (get_or parents x no_link) (entry_at entries x)))

-- the stored entry of x is not the network's
unfoldable pub bad_stored : List ℕ → Net → ℕ → Bool
bad_stored file g x =
    not (same (take entry_bytes (drop (entry_place g.links x) file)) (entry_record (g.parent x) (entry g x)))

-- the places of all entries are in the file
pub record Placed (file : List ℕ) (m n : ℕ) : Type 0 where
  pub each : (x : ℕ) → x < n → entry_place m x + entry_bytes ≤ length file

-- 1 to 9, then 10, then 24, of a network that a file holds
unfoldable pub content_verdict : List ℕ → Net → Bool → Verdict
content_verdict file g short =
    firstly (net_verdict g ∷ refuse_if short NoRoom 0 ∷ refuse_at (bad_stored file g) g.nodes BadEntry ∷ [])

-- a file whose header is this, within the limits, and that has as many blocks as it says
pub record Blocked (file : List ℕ) (head : Header) : Type 0 where
  pub is : head ≡ head_read file
  pub sized : size_verdict edition_limits (nodes_read file) (links_read file) (search_read file) ≡ taken
  pub long : length file ≡ block_count (nodes_read file) (links_read file) * block_bytes

-- the head, then the length, then block by block
unfoldable pub blocks_verdict : List ℕ → Verdict
blocks_verdict file =
    let n = nodes_read file in
    let m = links_read file in
    firstly
    (head_verdict file ∷
    refuse_if (not (eqb (length file) (block_count n m * block_bytes))) BadLength 0 ∷
    verdict_to (block_refusal file n m) (block_count n m) ∷ [])

-- what the check of a file's records says, and where they are taken leaves in the row that it works in
pub record Judged (file : List ℕ) (g : Net) (short : Bool) (v : Verdict) (row : List ℕ) : Type 0 where
  pub is : v ≡ content_verdict file g short
  pub tabled : v ≡ taken → Tabled g row

-- a row that begins with the first n entries of another
unfoldable pub copied : List ℕ → ℕ → List ℕ → List ℕ
copied from n row = rows_to (λ x. entry_row (entry_at from x)) n ++ past_entries n row
