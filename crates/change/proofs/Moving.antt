-- A climb that changes one number of each node on its way: what is done so far has the new value, the rest the old one.
-- Assumes nothing.
use mathlib.Core.Path.{◌≡◌, refl, sym, subst, ap, ◌∙◌}
use mathlib.Core.Bool.{Bool, true, false, cond, ◌||◌}
use mathlib.Core.List.{List}
use Prim.Native.Nat.{ℕ, ◌<◌}
use lib.Dec.{eqb}
use lib.ListN.{length, get_or, set, length-set}
use lib.Seq.{get_or-set_same, get_or-set_other}
use borrow.Author.Tests.{eqb-true, eqb-false}
use Rattle.rows.proofs.Tests.{or_none}
use Rattle.change.specs.Work.{Moved}

pub moved_none : (f : ℕ → ℕ) (done : ℕ → Bool) (row : List ℕ) → ((x : ℕ) → done x ≡ false) → Moved done f row row
moved_none f done row h = record { size = refl; each = λ x. rw (h x) }

-- one node more
pub moved_more :
    (f : ℕ → ℕ) (done done' : ℕ → Bool) (before after : List ℕ) (c v : ℕ)
    → Moved done f before after → c < length after → done c ≡ false → ((x : ℕ) → done' x ≡ (done x || eqb c x))
    → v ≡ f (get_or after c 0) → Moved done' f before (set after c v)
moved_more f done done' before after c v m l out h q =
    record { size = length-set after c v ∙ m.size; each = λ x. rw (h x) (go x (eqb c x) refl) }
  where
    go : (x : ℕ) (b : Bool) → eqb c x ≡ b → get_or (set after c v) x 0 ≡ cond (done x || b) (f (get_or before x 0)) (get_or before x 0)
    go x true e =
        let same = eqb-true c x e in
        let old : get_or after c 0 ≡ get_or before c 0 = m.each c ∙ rw out in
        subst (λ (y : ℕ). get_or (set after c v) y 0 ≡ cond (done y || true) (f (get_or before y 0)) (get_or before y 0)) same
        (rw out (get_or-set_same after c v 0 l ∙ q ∙ ap f old))
    go x false e = rw (or_none (done x)) (get_or-set_other after c x v 0 (λ z. eqb-false c x e (sym z)) ∙ m.each x)
