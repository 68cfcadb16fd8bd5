-- Names: bytes of a text that are a name's, as the definition says it and as equal lists. Assumes nothing.
use mathlib.Core.Path.{◌≡◌, refl, sym, ap, ◌∙◌}
use mathlib.Core.Logic.{◌⊎◌, inl, inr}
use mathlib.Core.Bool.{Bool, true, false, not, ◌&&◌, true≢false}
use mathlib.Core.List.{List}
use Prim.Native.Nat.{ℕ, ◌+◌, ◌-◌, ◌<◌, ◌≤◌}
use native.Mathlib.Omega.{arith}
use lib.Dec.{eqb, leb}
use lib.ListN.{length, get_or}
use lib.Seq.{ext_get_or}
use lib.Pointwise.{pointwise}
use borrow.Author.Tests.{eq-eqb, ne_eqb, eqb-true, le-leb, lt-leb}
use Rattle.std.specs.Bool.{Decides}
use Rattle.std.specs.List.{between}
use Rattle.std.proofs.lemmas.Bool.Decides.{Decides-eqb}
use Rattle.std.proofs.lemmas.List.Edits.{get_or-between, length-between}
use Rattle.std.proofs.lemmas.Slice.Eq.{slice_eq-Decides}
use Rattle.rows.specs.Count.{some_to}
use Rattle.rows.proofs.Best.{none_some, some_none}
use Rattle.rows.proofs.Tests.{and_left, and_right, and_none}
use Rattle.text.specs.Words.{newline, byte_at, is_named}

pub not_true : (b : Bool) → not b ≡ false → b ≡ true
not_true true e = refl
not_true false e = absurd (true≢false e)

pub not_false : (b : Bool) → not b ≡ true → b ≡ false
not_false false e = refl
not_false true e = absurd (true≢false (sym e))

-- Do the byte at a place from `from` on and the name's differ?
abbrev differ : List ℕ → ℕ → List ℕ → ℕ → Bool
differ text from name i = not (eqb (byte_at text (from + i)) (get_or name i newline))

-- the bytes from one place to before another, as a list, are those of the name where the definition says so, and only there
module _ (text : List ℕ) (from to : ℕ) (name : List ℕ) (low : from ≤ to) (high : to ≤ length text) where
  size : length (between from to text) ≡ to - from
  size = length-between text from to high

  named_same : is_named text from to name ≡ true → between from to text ≡ name
  unfolding is_named byte_at
  named_same e =
      let long : from + length name ≡ to = eqb-true (from + length name) to (and_left _ _ e) in
      let inside : (leb to (length text) && not (some_to (differ text from name) (length name))) ≡ true = and_right (eqb (from + length name) to) _ e in
      let none : some_to (differ text from name) (length name) ≡ false = not_false _ (and_right (leb to (length text)) _ inside) in
      ext_get_or newline _ _ (omega (arith, size))
      (λ i l.
      get_or-between text from to i newline (omega (arith, size))
      ∙ eqb-true _ _ (not_true _ (some_none (differ text from name) (length name) none i (omega (arith, size)))))

  same_named : between from to text ≡ name → is_named text from to name ≡ true
  unfolding is_named byte_at
  same_named e =
      let long : length name ≡ to - from = sym (ap length e) ∙ size in
      let none : some_to (differ text from name) (length name) ≡ false =
      none_some (differ text from name) (length name)
      (λ i l.
      ap not
      (eq-eqb _ _ (sym (get_or-between text from to i newline (omega arith)) ∙ ap (λ (r : List ℕ). get_or r i newline) e))) in
      rw (eq-eqb (from + length name) to (omega arith), le-leb to (length text) high, none) refl

  pub named_is : (word : List ℕ) (r : Bool) → r ≡ pointwise eqb word name → word ≡ between from to text → r ≡ is_named text from to name
  named_is word r q e = go r (slice_eq-Decides Decides-eqb word name r q) (is_named text from to name) refl
    where
      go : (r : Bool) → Decides r (word ≡ name) → (b : Bool) → is_named text from to name ≡ b → r ≡ is_named text from to name
      go true d b f = sym (same_named (sym e ∙ d.0 refl))
      go false d false f = sym f
      go false d true f = d.1 (e ∙ named_same f) ∙ sym f

pub not_named : (text : List ℕ) (from to : ℕ) (name : List ℕ) → (to < from) ⊎ (length text < to) → false ≡ is_named text from to name
unfolding is_named
not_named text from to name (inl l) = rw (ne_eqb (from + length name) to (λ e. omega arith)) refl
not_named text from to name (inr l) = rw (lt-leb to (length text) l) (sym (and_none (eqb (from + length name) to)))
