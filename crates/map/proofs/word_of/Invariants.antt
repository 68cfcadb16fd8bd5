-- The loop of `map::word_of`: what it keeps. Assumes nothing.
use mathlib.Core.Path.{◌≡◌}
use Prim.Native.Nat.{◌+◌, ◌*◌}
use Rattle.edition.specs.Limits.{word_bits}
use Rattle.map.specs.Work.{open_by, packed}
use Rattle.map.proofs.word_of.Given as goal

abbrev pub invariant-loop-j : goal.invariant-loop-j
invariant-loop-j l =
    l.word ≡ packed (λ j. open_by l.entries l.n (l.i * word_bits + j)) l.j
