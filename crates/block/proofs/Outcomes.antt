-- Two outcomes that a promise allows are equal: one theorem a public function, in the words of its contract. Assumes nothing.
use Prim.Native.Nat.{ℕ, ◌+◌}
use mathlib.Core.List.{List}
use Rattle.block.specs.Block.{block_verdict, payload, payload_place, sealed}
use Rattle.edition.proofs.Only.{One, one}

-- `block::check_block`
pub one_check_block : (kind number used : ℕ) (b : List ℕ) → One (block_verdict kind number used b)
one_check_block kind number used b = one _

-- `block::payload`
pub one_payload :
    (kind number used : ℕ) (b : List ℕ) (start : ℕ) →
    One (payload kind number used b)
    × One (payload_place kind number used b + start)
one_payload kind number used b start = (one _, one _)

-- `block::seal`
pub one_seal : (kind number used : ℕ) (b : List ℕ) → One (sealed kind number used b)
one_seal kind number used b = one _
