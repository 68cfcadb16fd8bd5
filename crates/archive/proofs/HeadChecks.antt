-- What is known of a file whose length is taken. Assumes nothing.
use mathlib.Core.Path.{◌≡◌, sym, ◌∙◌}
use mathlib.Core.Bool.{Bool, not}
use mathlib.Core.List.{List}
use Prim.Native.Nat.{ℕ, ◌+◌, ◌*◌, ◌%◌, ◌≤◌}
use native.Mathlib.Omega.{arith}
use lib.Dec.{eqb}
use lib.ListN.{length}
use borrow.Author.Tests.{eqb-true, eqb-false, not-false}
use Rattle.edition.specs.Refusals.{Verdict, taken}
use Rattle.edition.specs.declared.Why.TheVariants.{BadLength}
use Rattle.edition.specs.Stored.{block_bytes}
use Rattle.rows.specs.First.{refuse_if}
use Rattle.rows.proofs.Refusing.{if_taken_lem}
use Rattle.rows.proofs.Tests.{or_false}
use Rattle.archive.specs.Reader.{bad_file_length}

-- a file that is not empty has a first block
pub first-there :
    (file : List ℕ) (b : Bool)
    → b ≡ bad_file_length file → (v : Verdict) → v ≡ refuse_if b BadLength 0 → v ≡ taken
    → 0 * block_bytes + block_bytes ≤ length file
unfolding bad_file_length
first-there file b odd v is ok =
    let parts =
    or_false (eqb (length file) 0) (not (eqb (length file % block_bytes) 0))
    (sym odd ∙ if_taken_lem b BadLength 0 (sym is ∙ ok)) in
    omega (arith, eqb-false (length file) 0 parts.0, eqb-true (length file % block_bytes) 0 (not-false (eqb (length file % block_bytes) 0) parts.1))
