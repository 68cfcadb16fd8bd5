-- The records of a kind and a count that some block has fit a block. Assumes nothing.
use mathlib.Core.Path.{◌≡◌}
use mathlib.Core.Bool.{Bool, true, false, cond}
use Prim.Native.Nat.{ℕ, ◌+◌, ◌*◌, ◌≤◌}
use native.Mathlib.Omega.{arith}
use lib.Dec.{eqb, ltb}
use borrow.Author.Tests.{ltb-false}
use Rattle.edition.specs.Stored.{block_bytes, front_bytes, payload_bytes, header_kind, links_kind, table_kind, header_bytes, link_bytes, entry_bytes}
use Rattle.edition.specs.Stored.{headers_a_block, links_a_block, entries_a_block}
use Rattle.rows.proofs.Tests.{or_false}
use Rattle.block.specs.Block.{capacity, record_bytes, no_such_block}

by_kind :
    (x y z : Bool) (used : ℕ)
    → ltb (cond x headers_a_block (cond y links_a_block (cond z entries_a_block 0))) used ≡ false
    → used * cond x header_bytes (cond y link_bytes (cond z entry_bytes 0)) ≤ payload_bytes
by_kind true y z used h = omega (arith, ltb-false headers_a_block used h)
by_kind false true z used h = omega (arith, ltb-false links_a_block used h)
by_kind false false true used h = omega (arith, ltb-false entries_a_block used h)
by_kind false false false used h = omega arith

pub such_size : (kind used : ℕ) → no_such_block kind used ≡ false → used * record_bytes kind ≤ payload_bytes
unfolding no_such_block capacity record_bytes
such_size kind used h =
    by_kind (eqb kind header_kind) (eqb kind links_kind) (eqb kind table_kind) used
    (or_false (eqb used 0) (ltb (capacity kind) used) h).1

pub heard_entries : (kind used : ℕ) → no_such_block kind used ≡ false → kind ≡ table_kind → front_bytes + used * entry_bytes ≤ block_bytes
unfolding record_bytes
heard_entries kind used h q = let size = rw q at (such_size kind used h) in omega arith

pub size_fits : (kind used : ℕ) → no_such_block kind used ≡ false → (w : ℕ) → w ≡ record_bytes kind → used * w ≤ payload_bytes
size_fits kind used h w q = rw q (such_size kind used h)
