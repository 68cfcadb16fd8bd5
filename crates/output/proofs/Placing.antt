-- Where a text goes in the buffer, and what waits once it is there. Assumes nothing.
use mathlib.Core.Path.{◌≡◌, ap, ◌∙◌}
use mathlib.Core.List.{List, ◌++◌}
use Prim.Native.Nat.{ℕ, ◌+◌, ◌-◌, ◌<◌, ◌≤◌}
use native.Mathlib.Omega.{arith}
use borrow.Author.Tests.{le-leb, lt-leb}
use lib.ListN.{length, take}
use lib.Seq.{paste, length-paste, take-paste, take-length}
use Rattle.output.specs.Text.{place_for, waits, Holds}

-- there is room behind what waits
pub place_behind : (size at n : ℕ) → at ≤ size → n ≤ size - at → at ≡ place_for size at n
unfolding place_for
place_behind size at n l m = rw (le-leb (at + n) size (omega arith))

-- there is none, and what waits is written out
pub place_begins : (size at n r : ℕ) → size < at + n → r ≡ 0 → r ≡ place_for size at n
unfolding place_for
place_begins size at n r l q = rw (lt-leb (at + n) size l) q

module _ (out text : List ℕ) (at place : ℕ) (low : place ≤ length out) (p : place ≡ place_for (length out) at (length text)) where
  -- the text is copied behind what waited before its place
  pub put_held :
      length text ≤ length out - place
      → (after : List ℕ) → after ≡ paste out place text (length text)
      → Holds after (place + length text) (waits out at text)
  unfolding waits
  put_held l after q =
      let fits : place + length text ≤ length out = omega arith in
      record {
        room = omega (arith, ap length q, length-paste out place text (length text) fits (omega arith));
        is = rw (q, ← p, le-leb (length text) (length out - place) l)
            (take-paste out place text (length text) low (omega arith) ∙ ap (λ (t : List ℕ). take place out ++ t) (take-length text));
      }

  -- the text is too long for the buffer
  pub put_past : length out - place < length text → Holds out 0 (waits out at text)
  unfolding waits
  put_past l = record { room = omega arith; is = rw (← p, lt-leb (length text) (length out - place) l) }
