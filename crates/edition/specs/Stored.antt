-- The numbers of the stored form, edition 1. They stay for ever, whatever memory comes to hold. Assumes nothing.
use Rattle.std.specs.Prelude.{ℕ, ◌-◌}
use Rattle.edition.specs.declared.Limits.{Limits}
use Rattle.edition.specs.declared.Search.{Search}
use Rattle.edition.specs.declared.Aim.{Aim}
use Rattle.edition.specs.Limits.{lowest_number}

-- Byte 1 of every block.
abbrev pub edition_one : ℕ
edition_one = 1

-- So many nodes an edition 1 file can hold.
abbrev pub stored_nodes : ℕ
stored_nodes = 512

-- So many links.
abbrev pub stored_links : ℕ
stored_links = 2048

-- The largest depth that is not the whole search.
abbrev pub stored_depth : ℕ
stored_depth = 510

-- What an edition 1 file can hold.
abbrev pub edition_limits : Limits
edition_limits = record { nodes = stored_nodes; links = stored_links; depth = stored_depth }

-- The root and the depth of a search alone.
abbrev pub aim_of : Search → Aim
aim_of s = record { root = s.root; depth = s.depth }

-- The search that a root and a depth mean in a file: edition 1 files always mean rule 0.
abbrev pub by_number : Aim → Search
by_number a = record { root = a.root; depth = a.depth; rule = lowest_number }

-- A block is 512 bytes.
abbrev pub block_bytes : ℕ
block_bytes = 512

-- 8 of them stand in front: kind, edition, number, used count, check.
abbrev pub front_bytes : ℕ
front_bytes = 8

-- The rest is the payload.
abbrev pub payload_bytes : ℕ
payload_bytes = block_bytes - front_bytes

-- Byte 0 of the header block, H.
abbrev pub header_kind : ℕ
header_kind = 0x48

-- Byte 0 of a block of links, L.
abbrev pub links_kind : ℕ
links_kind = 0x4c

-- Byte 0 of a block of the table, T.
abbrev pub table_kind : ℕ
table_kind = 0x54

-- Bytes of the header's record.
abbrev pub header_bytes : ℕ
header_bytes = 8

-- Bytes of a link's record.
abbrev pub link_bytes : ℕ
link_bytes = 8

-- Bytes of an entry's record.
abbrev pub entry_bytes : ℕ
entry_bytes = 28

-- Records in the header block.
abbrev pub headers_a_block : ℕ
headers_a_block = 1

-- Links in a full block.
abbrev pub links_a_block : ℕ
links_a_block = 63

-- Entries in a full block.
abbrev pub entries_a_block : ℕ
entries_a_block = 18

-- The largest file has 63 blocks.
abbrev pub block_limit : ℕ
block_limit = 63
