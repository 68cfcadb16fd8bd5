-- What a case may lend. Assumes nothing.
use Rattle.std.specs.Prelude.{ℕ}

-- The most parents, link numbers and bytes of a case, and the most room that it lends.
abbrev pub most_parents : ℕ
most_parents = 600

abbrev pub most_links : ℕ
most_links = 8400

abbrev pub most_bytes : ℕ
most_bytes = 33000

abbrev pub most_room : ℕ
most_room = 40000

-- The most numbers of each of the two rows that it lends to the forwarder.
abbrev pub most_route : ℕ
most_route = 5000
