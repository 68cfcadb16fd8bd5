-- The records of the stored form, edition 1, as bytes. Assumes nothing.
use Rattle.std.specs.Prelude.{cond, List, ◌++◌, ℕ, ◌+◌, leb, length}
use Rattle.std.proofs.lemmas.List.Edits.{sets}
use Rattle.edition.specs.declared.Entry.{Entry}
use Rattle.edition.specs.declared.Search.{Search}
use Rattle.network.specs.declared.Link.{Link}
use Rattle.numbers.specs.Bytes.{bytes_of}

-- Header: n, m, root, depth, 2 bytes each.
unfoldable pub header_record : ℕ → ℕ → Search → List ℕ
header_record n m search = bytes_of 2 n ++ bytes_of 2 m ++ bytes_of 2 search.root ++ bytes_of 2 search.depth

-- Link: two ends, length, service mark, 2 bytes each.
unfoldable pub link_record : Link → List ℕ
link_record l = bytes_of 2 l.first ++ bytes_of 2 l.second ++ bytes_of 2 l.length ++ bytes_of 2 l.mark

-- Entry: parent link 2, state 1, zero 1, links for sum, incr, max 2 each, zero 2, sum 8, incr 4, max 4.
unfoldable pub entry_record : ℕ → Entry → List ℕ
entry_record parent e =
    bytes_of 2 parent ++ bytes_of 1 e.state ++ bytes_of 1 0 ++
    bytes_of 2 e.sum.link ++ bytes_of 2 e.incr.link ++ bytes_of 2 e.max.link ++ bytes_of 2 0 ++
    bytes_of 8 e.sum.cost ++ bytes_of 4 e.incr.cost ++ bytes_of 4 e.max.cost

-- A row with a record of so many bytes from a place on, where it fits; elsewhere the row as it was.
unfoldable pub record_put : ℕ → ℕ → List ℕ → List ℕ → List ℕ
record_put at size bytes row = cond (leb (at + size) (length row)) (sets row at bytes) row
