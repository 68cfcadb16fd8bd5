-- Runs of stores: one after another, one that grows at its front, one at the beginning of a row. Assumes nothing.
use mathlib.Core.Path.{◌≡◌, refl, ap, ◌∙◌}
use mathlib.Core.List.{List, [], ◌∷◌, ◌++◌}
use Prim.Native.Nat.{ℕ, suc, ◌+◌, ◌<◌, ◌≤◌}
use native.Mathlib.Nat.{zero-add}
use native.Mathlib.Omega.{arith}
use lib.ListN.{length, set, drop}
use lib.Seq.{sets, sets-eq, set_comm}

pub sets_append : (l : List ℕ) (i : ℕ) (a b : List ℕ) → sets l i (a ++ b) ≡ sets (sets l i a) (i + length a) b
sets_append l i [] b = ap (λ (k : ℕ). sets l k b) (omega arith)
sets_append l i (v ∷ a) b =
    sets_append (set l i v) (suc i) a b ∙ ap (λ (k : ℕ). sets (sets (set l i v) (suc i) a) k b) (omega arith)

-- a store before a run
set_before : (l : List ℕ) (j i : ℕ) (vs : List ℕ) (a : ℕ) → i < j → set (sets l j vs) i a ≡ sets (set l i a) j vs
set_before l j i [] a h = refl
set_before l j i (v ∷ vs) a h =
    set_before (set l j v) (suc j) i vs a (omega arith) ∙ ap (λ (r : List ℕ). sets r (suc j) vs) (set_comm l j i v a (λ e. omega arith))

pub sets_front : (l : List ℕ) (i : ℕ) (vs : List ℕ) (a : ℕ) → set (sets l (suc i) vs) i a ≡ sets l i (a ∷ vs)
sets_front l i vs a = set_before l (suc i) i vs a (omega arith)

pub sets_first : (vs l : List ℕ) → length vs ≤ length l → sets l 0 vs ≡ vs ++ drop (length vs) l
sets_first vs l h =
    sets-eq vs l 0 (omega arith) ∙ ap (λ (k : ℕ). vs ++ drop k l) (zero-add (length vs))
