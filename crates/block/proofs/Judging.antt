-- The verdict on a block, refusal by refusal. Assumes nothing.
use Rattle.std.specs.Prelude.{Err}
use mathlib.Core.Path.{◌≡◌}
use mathlib.Core.Bool.{not}
use mathlib.Core.List.{List, []}
use Prim.Native.Nat.{ℕ}
use lib.Dec.{eqb}
use lib.ListN.{length, take, drop}
use borrow.Author.Tests.{eqb-true, not-false}
use Rattle.edition.specs.Refusals.{Verdict, taken}
use Rattle.edition.specs.declared.Why.TheVariants.{BadLength}
use Rattle.edition.specs.declared.Refusal.{Refusal}
use Rattle.edition.specs.Stored.{block_bytes, front_bytes, payload_bytes}
use Rattle.rows.proofs.Refusing.{head_taken, if_taken_lem}
use Rattle.block.specs.Block.{block_verdict, payload, payload_place}

module _ (kind number used : ℕ) (b : List ℕ) where
  -- a block that is taken is as long as a block
  pub taken-length : block_verdict kind number used b ≡ taken → length b ≡ block_bytes
  unfolding block_verdict
  taken-length h =
      eqb-true (length b) block_bytes
      (not-false (eqb (length b) block_bytes) (if_taken_lem (not (eqb (length b) block_bytes)) BadLength 0 (head_taken _ _ h)))

  -- what is handed back, and from which place on
  module _ (v : Verdict) (p : v ≡ block_verdict kind number used b) where
    pub payload-taken : v ≡ taken → take payload_bytes (drop front_bytes b) ≡ payload kind number used b
    unfolding payload
    payload-taken h = rw (← p, h)

    pub place-taken : v ≡ taken → front_bytes ≡ payload_place kind number used b
    unfolding payload_place
    place-taken h = rw (← p, h)

    pub payload-none : (r : Refusal) → v ≡ Err r → [] ≡ payload kind number used b
    unfolding payload
    payload-none r h = rw (← p, h)

    pub place_none : (r : Refusal) → v ≡ Err r → 0 ≡ payload_place kind number used b
    unfolding payload_place
    place_none r h = rw (← p, h)
