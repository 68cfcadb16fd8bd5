-- The parts of a file of n nodes and m links: which block holds which records. Assumes nothing.
use Rattle.std.specs.Prelude.{cond, ℕ, ◌+◌, ◌*◌, ◌-◌, ◌/◌, ◌%◌, min, eqb, leb}
use Rattle.archive.specs.declared.Part.{Part}
use Rattle.edition.specs.Stored.{block_bytes, front_bytes, header_kind, links_kind, table_kind, link_bytes, entry_bytes, headers_a_block, links_a_block}
use Rattle.edition.specs.Stored.{entries_a_block}

-- How many blocks hold c records, so many a block.
unfoldable pub blocks_for : ℕ → ℕ → ℕ
blocks_for each c = (c + (each - 1)) / each

-- How many link blocks a file of m links has: none with m = 0.
abbrev pub link_blocks : ℕ → ℕ
link_blocks m = blocks_for links_a_block m

-- How many blocks a file has: the header, the link blocks, the table blocks.
unfoldable pub block_count : ℕ → ℕ → ℕ
block_count n m = 1 + link_blocks m + blocks_for entries_a_block n

-- Block j of those of a kind: each but the last is full.
unfoldable pub part_of : ℕ → ℕ → ℕ → ℕ → Part
part_of kind each c j = record { kind = kind; from = j * each; used = min each (c - j * each) }

-- Block i of a file.
unfoldable pub part_at : ℕ → ℕ → ℕ → Part
part_at n m i =
    let links = part_of links_kind links_a_block m (i - 1) in
    let entries = part_of table_kind entries_a_block n (i - 1 - link_blocks m) in
    cond (eqb i 0) (part_of header_kind headers_a_block 1 0) (cond (leb i (link_blocks m)) links entries)

-- Where the record of link e stands in a file.
unfoldable pub link_place : ℕ → ℕ
link_place e = (1 + e / links_a_block) * block_bytes + front_bytes + e % links_a_block * link_bytes

-- Where the entry of x stands in a file of m links.
unfoldable pub entry_place : ℕ → ℕ → ℕ
entry_place m x = (1 + link_blocks m + x / entries_a_block) * block_bytes + front_bytes + x % entries_a_block * entry_bytes
