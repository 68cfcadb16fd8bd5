-- Edition 1's limits are within memory's: what its files can hold, memory can. Assumes nothing.
use Prim.Native.Nat.{◌≤◌}
use native.Mathlib.Omega.{arith}
use Rattle.edition.specs.declared.Limits.{Limits}
use Rattle.edition.specs.Limits.{memory_limits}
use Rattle.edition.specs.Stored.{edition_limits}

-- limits of which none is over the other's
pub record Within (small large : Limits) : Type 0 where
  pub nodes : small.nodes ≤ large.nodes
  pub links : small.links ≤ large.links
  pub depth : small.depth ≤ large.depth

pub edition_within : Within edition_limits memory_limits
edition_within = record { nodes = omega arith; links = omega arith; depth = omega arith }
