-- The numbers of SCOPE that memory holds itself to, and its marks. The stored form has its own (Stored).
-- Assumes nothing.
use Rattle.std.specs.Prelude.{ℕ, ◌*◌, ◌-◌}
use Rattle.edition.specs.declared.Limits.{Limits}

-- 65,535 where a link is named and there is none.
abbrev pub no_link : ℕ
no_link = 65535

-- 65,535 where a node is named and there is none.
abbrev pub no_node : ℕ
no_node = 65535

-- 65,535 as a depth: the whole search.
abbrev pub whole_search : ℕ
whole_search = 65535

-- Nodes are 0 to n-1, n from 1 to 512.
abbrev pub node_limit : ℕ
node_limit = 512

-- Links are 0 to m-1, m from 0 to 2,048.
abbrev pub link_limit : ℕ
link_limit = 2048

-- Depth is 0 to 510, or the whole search.
abbrev pub depth_limit : ℕ
depth_limit = 510

-- Tie rule 0: of equal costs the lowest link number decides.
abbrev pub lowest_number : ℕ
lowest_number = 0

-- Tie rule 1: of equal costs the lower incr cost decides, and then the lowest link number.
abbrev pub nearer_first : ℕ
nearer_first = 1

-- What memory holds itself to.
abbrev pub memory_limits : Limits
memory_limits = record { nodes = node_limit; links = link_limit; depth = depth_limit }

-- A length is 0 to 65,535.
abbrev pub longest : ℕ
longest = 65535

-- Incr and max never pass 33,488,385: the lengths of 511 links.
abbrev pub way_limit : ℕ
way_limit = (node_limit - 1) * longest

-- Sum never passes 17,112,564,735: 511 times that.
abbrev pub sum_limit : ℕ
sum_limit = (node_limit - 1) * way_limit

-- The service mark of a link in service.
abbrev pub served : ℕ
served = 1

-- The service mark of a link that is withdrawn.
abbrev pub withdrawn : ℕ
withdrawn = 0

-- Numbers in a link's record: two ends, length, service mark.
abbrev pub link_width : ℕ
link_width = 4

-- Numbers in an entry's record.
abbrev pub entry_width : ℕ
entry_width = 10

-- Numbers in the longest row of links.
abbrev pub link_room : ℕ
link_room = link_limit * link_width

-- Numbers in the longest row of entries.
abbrev pub entry_room : ℕ
entry_room = node_limit * entry_width

-- Numbers in a row that holds any list of a forwarder: 1,022, twice the nodes less two.
abbrev pub route_room : ℕ
route_room = 2 * node_limit - 2

-- The map has eight words.
abbrev pub map_words : ℕ
map_words = 8

-- A word of the map has 64 bits.
abbrev pub word_bits : ℕ
word_bits = 64
