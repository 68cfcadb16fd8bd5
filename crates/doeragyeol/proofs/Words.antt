-- A word says what the verdict was: 0 exactly where it was taken, and else the refusal's number and place. Assumes nothing.
use Rattle.std.specs.Prelude.{Err, Ok}
use mathlib.Core.Path.{◌≡◌, refl}
use Prim.Native.Nat.{◌+◌, ◌≤◌, ◌/◌, ◌%◌}
use native.Mathlib.Omega.{arith}
use Rattle.edition.specs.declared.Refusal.{Refusal}
use Rattle.edition.specs.Refusals.{Verdict, taken, number_of}
use Rattle.edition.proofs.Numbered.{numbered}
use Rattle.doeragyeol.specs.Word.{place_most, word_of}

-- 0 exactly where it was taken
pub taken-zero : word_of taken ≡ 0
unfolding word_of
taken-zero = refl

pub zero-taken : (v : Verdict) → word_of v ≡ 0 → v ≡ taken
unfolding word_of
zero-taken (Ok _) q = refl
zero-taken (Err r) q = absurd (omega (arith, numbered r.why))

pub number_back : (r : Refusal) → word_of (Err r) / (place_most + 1) ≡ number_of r.why
unfolding word_of
number_back r = omega arith

pub place_back : (r : Refusal) → r.place ≤ place_most → word_of (Err r) % (place_most + 1) ≡ r.place
unfolding word_of
place_back r l = omega arith
