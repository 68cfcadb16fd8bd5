-- Records put where there is room, and the parts of an entry as one. Assumes nothing.
use mathlib.Core.Path.{◌≡◌, refl}
use mathlib.Core.List.{List, ◌++◌, append_assoc}
use Prim.Native.Nat.{ℕ, ◌+◌}
use lib.Dec.{leb}
use lib.ListN.{length, length-append}
use mathlib.Core.Bool.{Bool, true, false}
use lib.Seq.{sets}
use Rattle.numbers.specs.Bytes.{bytes_of}
use Rattle.numbers.proofs.Putting.{Put, bytes_length, put_more}
use Rattle.edition.specs.declared.Entry.{Entry}
use Rattle.edition.specs.declared.Search.{Search}
use Rattle.edition.specs.Stored.{header_bytes, link_bytes, entry_bytes}
use Rattle.network.specs.declared.Link.{Link}
use Rattle.record.specs.Record.{header_record, link_record, entry_record, record_put}

-- a record where there is room, and none where there is not
module _ (at size : ℕ) (bytes row : List ℕ) (b : Bool) (is : b ≡ leb (at + size) (length row)) where
  pub no_room : b ≡ false → row ≡ record_put at size bytes row
  unfolding record_put
  no_room e = rw (← is, e)

  pub put_is : b ≡ true → (after : List ℕ) → after ≡ sets row at bytes → after ≡ record_put at size bytes row
  unfolding record_put
  put_is e after q = rw (← is, e) q

-- the entry's three parts
pub entry-joined :
    (parent : ℕ) (e : Entry) (at : ℕ) (before one two after : List ℕ)
    → one ≡ sets before at (bytes_of 2 parent ++ bytes_of 1 e.state ++ bytes_of 1 0)
    → two
    ≡ sets one (at + 4)
    (bytes_of 2 e.sum.link ++ bytes_of 2 e.incr.link ++ bytes_of 2 e.max.link ++ bytes_of 2 0)
    → after ≡ sets two (at + 12) (bytes_of 8 e.sum.cost ++ bytes_of 4 e.incr.cost ++ bytes_of 4 e.max.cost)
    → after ≡ sets before at (entry_record parent e)
unfolding entry_record
entry-joined parent e at before one two after p q r =
    let front = bytes_of 2 parent ++ bytes_of 1 e.state ++ bytes_of 1 0 in
    let links = bytes_of 2 e.sum.link ++ bytes_of 2 e.incr.link ++ bytes_of 2 e.max.link ++ bytes_of 2 0 in
    let costs = bytes_of 8 e.sum.cost ++ bytes_of 4 e.incr.cost ++ bytes_of 4 e.max.cost in
    let head : Put before at 4 front one = record { is = p; size = simp (length-append, bytes_length) } in
    let body : Put before at 12 (front ++ links) two =
    put_more before at 4 front one (at + 4) 8 links two head
    (record { is = q; size = simp (length-append, bytes_length) }) refl in
    let whole : Put before at entry_bytes (front ++ links ++ costs) after =
    put_more before at 12 (front ++ links) two (at + 12) 16 costs after body
    (record { is = r; size = simp (length-append, bytes_length) }) refl in
    simp append_assoc (simp append_assoc at whole.is)

-- how many bytes a record takes
pub entry-size : (parent : ℕ) (e : Entry) → length (entry_record parent e) ≡ entry_bytes
unfolding entry_record
entry-size parent e = simp (length-append, bytes_length)

pub header_size : (n m : ℕ) (search : Search) → length (header_record n m search) ≡ header_bytes
unfolding header_record
header_size n m search = simp (length-append, bytes_length)

pub link-size : (l : Link) → length (link_record l) ≡ link_bytes
unfolding link_record
link-size l = simp (length-append, bytes_length)
