-- The blocks of a file one after the other: the first that is refused decides. Assumes nothing.
use Rattle.std.specs.Prelude.{Err}
use mathlib.Core.Path.{◌≡◌, refl, sym, ap, ◌∙◌}
use mathlib.Core.Bool.{Bool, true, false}
use mathlib.Core.List.{List}
use Prim.Native.Nat.{ℕ, zero, suc, ◌*◌, ◌<◌}
use native.Mathlib.Nat.{not-suc-le-zero}
use native.Mathlib.Omega.{arith}
use lib.Dec.{eqb}
use lib.ListN.{take, drop}
use borrow.Author.Tests.{eqb-true, eqb-false}
use Rattle.edition.specs.declared.Refusal.{Refusal}
use Rattle.edition.specs.Refusals.{Verdict, taken}
use Rattle.edition.specs.Stored.{block_bytes}
use Rattle.rows.specs.First.{verdict_to}
use Rattle.rows.proofs.Refusing.{head_refuses, head_passes, only_one, to_passes}
use Rattle.block.specs.Block.{block_verdict}
use Rattle.archive.specs.declared.Part.{Part}
use Rattle.archive.specs.Parts.{part_at}
use Rattle.archive.specs.Reader.{block_at, block_refusal}

-- block i by the bytes of its place
pub part_refusal :
    (file : List ℕ) (n m i : ℕ) (part : Part)
    → part ≡ part_at n m i → (k : ℕ) → k ≡ block_bytes → (v : Verdict)
    → v ≡ block_verdict part.kind i part.used (take k (drop (i * block_bytes) file)) → v ≡ block_refusal file n m i
unfolding block_refusal block_at
part_refusal file n m i part q k e v p =
    p
    ∙ (ap (λ (j : ℕ). block_verdict part.kind i part.used (take j (drop (i * block_bytes) file))) e
    ∙ ap (λ (w : Part). block_verdict w.kind i w.used (take block_bytes (drop (i * block_bytes) file))) q)

-- the first that is refused among the blocks that a loop goes over, none below it refused
pub refuses_at : (f : ℕ → Verdict) (k i : ℕ) (r : Refusal) → i < k → ((j : ℕ) → j < i → f j ≡ taken) → f i ≡ Err r → verdict_to f k ≡ Err r
unfolding verdict_to
refuses_at f zero i r l h e = absurd (not-suc-le-zero l)
refuses_at f (suc k) i r l h e = go (refuses_at f k i r) (eqb i k) refl
  where
    go :
        (i < k → ((j : ℕ) → j < i → f j ≡ taken) → f i ≡ Err r → verdict_to f k ≡ Err r)
        → (b : Bool) → eqb i k ≡ b → verdict_to f (suc k) ≡ Err r
    go ih true q =
        let same = eqb-true i k q in
        head_passes _ _ (to_passes f k (λ j m. h j (omega (arith, m, same)))) ∙ (only_one (f k) ∙ (ap f (sym same) ∙ e))
    go ih false q = head_refuses _ _ r (ih (omega (arith, l, eqb-false i k q)) h e)
