-- Two outcomes that a promise allows are equal: one theorem a public function, in the words of its contract. Assumes nothing.
use Prim.Native.Nat.{ℕ}
use mathlib.Core.List.{List}
use Rattle.edition.specs.Stored.{header_bytes, link_bytes, entry_bytes}
use Rattle.edition.specs.declared.Entry.{Entry}
use Rattle.edition.specs.declared.Search.{Search}
use Rattle.network.specs.declared.Link.{Link}
use Rattle.record.specs.Record.{header_record, link_record, entry_record, record_put}
use Rattle.edition.proofs.Only.{One, one}

-- `record::put_header`
pub one_put_header :
    (bytes : List ℕ) (at n m : ℕ) (search : Search) →
    One (record_put at header_bytes (header_record n m search) bytes)
one_put_header bytes at n m search = one _

-- `record::put_link`
pub one_put_link : (bytes : List ℕ) (at : ℕ) (l : Link) → One (record_put at link_bytes (link_record l) bytes)
one_put_link bytes at l = one _

-- `record::put_entry`
pub one_put_entry :
    (bytes : List ℕ) (at parent : ℕ) (entry : Entry) →
    One (record_put at entry_bytes (entry_record parent entry) bytes)
one_put_entry bytes at parent entry = one _
