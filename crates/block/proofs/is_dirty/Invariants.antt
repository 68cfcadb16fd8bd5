-- The loop of `block::is_dirty`: what it keeps. Assumes nothing.
use Rattle.std.proofs.Common.{ℕ, ◌≡◌, ◌<◌}
use lib.ListN.{get_or}
use Rattle.block.proofs.is_dirty.Given as goal

-- the bytes so far are 0
abbrev pub invariant-loop-byte : goal.invariant-loop-byte
invariant-loop-byte l = (j : ℕ) → j < l.byte-index → get_or l.byte-items j 0 ≡ 0
