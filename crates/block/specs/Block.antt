-- A block of the stored form, edition 1: how one is made, and what one is refused for. Assumes nothing.
use Rattle.std.specs.Prelude.{Bool, cond, not, ◌&&◌, ◌||◌, List, [], ◌∷◌, ◌++◌, ℕ, ◌+◌, ◌*◌, ◌-◌, eqb, ltb, length, take, drop, replicate}
use Rattle.edition.specs.Refusals.{Verdict, if_taken}
use Rattle.edition.specs.declared.Why.TheVariants.{BadLength, BadCheck, BadBlock}
use Rattle.edition.specs.Stored.{edition_one, block_bytes, front_bytes, payload_bytes, header_kind, links_kind, table_kind, header_bytes, link_bytes}
use Rattle.edition.specs.Stored.{entry_bytes, headers_a_block, links_a_block, entries_a_block}
use Rattle.rows.specs.Count.{some_to}
use Rattle.rows.specs.First.{refuse_if, firstly}
use Rattle.rows.specs.Lists.{same}
use Rattle.numbers.specs.Bytes.{bytes_of, number_in}
use Rattle.block.specs.Bytes.{checksum, dirty}

-- How many records a block of a kind holds: none where the kind is none of the three.
unfoldable pub capacity : ℕ → ℕ
capacity kind =
    cond (eqb kind header_kind) headers_a_block
    (cond (eqb kind links_kind) links_a_block (cond (eqb kind table_kind) entries_a_block 0))

-- How many bytes a record of a kind takes.
unfoldable pub record_bytes : ℕ → ℕ
record_bytes kind =
    cond (eqb kind header_kind) header_bytes
    (cond (eqb kind links_kind) link_bytes (cond (eqb kind table_kind) entry_bytes 0))

-- Bytes 0 to 5: kind, edition, block number, records used.
unfoldable pub front : ℕ → ℕ → ℕ → List ℕ
front kind number used = kind ∷ edition_one ∷ bytes_of 2 number ++ bytes_of 2 used

-- The check of a block: the checksum with bytes 6-7 taken as zero.
unfoldable pub check_of : List ℕ → ℕ
check_of b = checksum (take 6 b ++ 0 ∷ 0 ∷ drop front_bytes b)

-- The records of a block, and zeros up to the end of the payload.
unfoldable pub filled : List ℕ → List ℕ
filled records = records ++ replicate (payload_bytes - length records) 0

-- The block of a kind, a number and a used count that holds these records.
unfoldable pub block : ℕ → ℕ → ℕ → List ℕ → List ℕ
block kind number used records =
    let head = front kind number used in
    let payload = filled records in
    head ++ bytes_of 2 (checksum (head ++ 0 ∷ 0 ∷ payload)) ++ payload

-- 21: the stored check is not the block's check.
unfoldable pub bad_check : List ℕ → Bool
bad_check b = not (eqb (number_in b 6 2) (check_of b))

-- Filler in an entry: byte 3, and bytes 10 and 11.
unfoldable pub dirty_entry : List ℕ → ℕ → Bool
dirty_entry b r =
    let at = front_bytes + r * entry_bytes in
    dirty b (at + 3) 1 || dirty b (at + 10) 2

-- Filler: the unused payload, and the zeros inside a table's entries.
unfoldable pub bad_filler : ℕ → ℕ → List ℕ → Bool
bad_filler kind used b =
    let inner = some_to (dirty_entry b) used in
    dirty b (front_bytes + used * record_bytes kind) (payload_bytes - used * record_bytes kind) ||
    (eqb kind table_kind && inner)

-- No block of any file has this kind and used count.
unfoldable pub no_such_block : ℕ → ℕ → Bool
no_such_block kind used = eqb used 0 || ltb (capacity kind) used

-- 22: kind, edition, number, used count or filler is wrong, or no block is as the one asked.
unfoldable pub bad_block : ℕ → ℕ → ℕ → List ℕ → Bool
bad_block kind number used b =
    no_such_block kind used || not (same (take 6 b) (front kind number used)) || bad_filler kind used b

-- A block asked for by kind, number and used count: 20, 21, 22.
unfoldable pub block_verdict : ℕ → ℕ → ℕ → List ℕ → Verdict
block_verdict kind number used b =
    firstly
    (refuse_if (not (eqb (length b) block_bytes)) BadLength 0 ∷
    refuse_if (bad_check b) BadCheck number ∷
    refuse_if (bad_block kind number used b) BadBlock number ∷ [])

-- What is handed back: the payload of a sound block, an empty part otherwise.
unfoldable pub payload : ℕ → ℕ → ℕ → List ℕ → List ℕ
payload kind number used b = let part = take payload_bytes (drop front_bytes b) in if_taken (block_verdict kind number used b) part []

-- Where in the lent bytes that part begins.
unfoldable pub payload_place : ℕ → ℕ → ℕ → List ℕ → ℕ
payload_place kind number used b = if_taken (block_verdict kind number used b) front_bytes 0

-- A row of 512 bytes made a block of its first `used` records from byte 8 on. A row of another length stays, and so does one where
-- no block has this kind and used count.
unfoldable pub sealed : ℕ → ℕ → ℕ → List ℕ → List ℕ
sealed kind number used b =
    let records = take (used * record_bytes kind) (drop front_bytes b) in
    cond (not (eqb (length b) block_bytes) || no_such_block kind used) b (block kind number used records)
