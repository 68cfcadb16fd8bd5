-- The loop of `archive::write_blocks`: what it keeps. Assumes nothing.
use mathlib.Core.Path.{◌≡◌}
use Rattle.archive.proofs.WriterLoop.{filed}
use Rattle.network.specs.Network.{lent}
use Rattle.archive.specs.Writer.{block_of}
use Rattle.archive.proofs.write_blocks.Given as goal

abbrev pub invariant-loop-i : goal.invariant-loop-i
invariant-loop-i l =
    l.file ≡ filed (block_of (lent l.net)) l.initial.file l.i
