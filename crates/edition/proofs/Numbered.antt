-- No refusal has number 0. Assumes nothing.
use Prim.Native.Nat.{◌≤◌}
use native.Mathlib.Omega.{arith}
use Rattle.edition.specs.declared.Why.{Why}
use Rattle.edition.specs.declared.Why.TheVariants.{NodeCount, LinkCount, BadRoot, BadDepth, BadRule, BadEnds, BadMark, BadParent, NoRoute, NotShort}
use Rattle.edition.specs.declared.Why.TheVariants.{NoRoom, LinkMissing, TreeLink, BreaksShort, BadStart, BadFailed, NoSwap}
use Rattle.edition.specs.declared.Why.TheVariants.{BadLength, BadCheck, BadBlock, BadEntry}
use Rattle.edition.specs.Refusals.{number_of}

pub numbered : (why : Why) → 1 ≤ number_of why
unfolding number_of
numbered NodeCount = omega arith
numbered LinkCount = omega arith
numbered BadRoot = omega arith
numbered BadDepth = omega arith
numbered BadRule = omega arith
numbered BadEnds = omega arith
numbered BadMark = omega arith
numbered BadParent = omega arith
numbered NoRoute = omega arith
numbered NotShort = omega arith
numbered NoRoom = omega arith
numbered LinkMissing = omega arith
numbered TreeLink = omega arith
numbered BreaksShort = omega arith
numbered BadStart = omega arith
numbered BadFailed = omega arith
numbered NoSwap = omega arith
numbered BadLength = omega arith
numbered BadCheck = omega arith
numbered BadBlock = omega arith
numbered BadEntry = omega arith
