-- The words of a line one after the other, and what a word is. Assumes nothing.
use mathlib.Core.Path.{◌≡◌, refl, ap, ◌∙◌}
use mathlib.Core.List.{List}
use Prim.Native.Nat.{ℕ, ◌-◌, ◌<◌, ◌≤◌}
use borrow.Author.Tests.{le-leb, lt-leb}
use Rattle.std.specs.Prelude.{Some, None}
use Rattle.edition.specs.Limits.{served, withdrawn}
use Rattle.text.specs.declared.Word.{Word}
use Rattle.text.specs.declared.Word.TheVariants.{Number, Root, Depth, Link, Node, Whole, Up, Down, Other, End}
use Rattle.text.specs.declared.Line.{Line}
use Rattle.text.specs.Words.{number_from, name_of, number_or, word_of, next_word, next_end, line_of, mark_of}

-- a word is none, a number, or else a name
module _ (text : List ℕ) (from to : ℕ) where
  pub word_none : to ≤ from → End ≡ word_of text from to
  unfolding word_of
  word_none l = rw (le-leb to from l) refl

  pub word_number : from < to → (n : ℕ) → Some n ≡ number_from text 0 from (to - from) → Number n ≡ word_of text from to
  unfolding word_of number_or
  word_number l n e = rw (lt-leb to from l, ← e) refl

  pub word_name : from < to → None ≡ number_from text 0 from (to - from) → (w : Word) → w ≡ name_of text from to → w ≡ word_of text from to
  unfolding word_of number_or
  word_name l e w q = rw (lt-leb to from l, ← e) q

pub ruleset worded = (word_none, word_number, word_name)

-- the mark of `up`, and of each other word
pub mark_up : served ≡ mark_of Up
unfolding mark_of
mark_up = refl

pub mark_other : (w : Word) → (w ≡ Up → ⊥) → withdrawn ≡ mark_of w
unfolding mark_of
mark_other (Number n) f = refl
mark_other Root f = refl
mark_other Depth f = refl
mark_other Link f = refl
mark_other Node f = refl
mark_other Whole f = refl
mark_other Up f = absurd (f refl)
mark_other Down f = refl
mark_other Other f = refl
mark_other End f = refl

pub ruleset marked = (mark_up, mark_other)

-- what is said of a place is said of an equal one
along : {A : Type 0} (f : ℕ → A) (v : A) (s t : ℕ) → v ≡ f s → s ≡ t → v ≡ f t
along f v s t e p = e ∙ ap f p

abbrev line_with : Word → Word → Word → Word → Word → Word → Word → Line
line_with kind a b c d e rest = record { kind = kind; a = a; b = b; c = c; d = d; e = e; rest = rest }

-- the seven words that are found one after the other, each from where the last one ends, are the line's
module _ (text : List ℕ) (at end : ℕ) where
  pub line_is : (kind a b c d e rest : Word) (s1 s2 s3 s4 s5 s6 : ℕ)
      → kind ≡ next_word text end at → s1 ≡ next_end text end at
      → a ≡ next_word text end s1 → s2 ≡ next_end text end s1
      → b ≡ next_word text end s2 → s3 ≡ next_end text end s2
      → c ≡ next_word text end s3 → s4 ≡ next_end text end s3
      → d ≡ next_word text end s4 → s5 ≡ next_end text end s4
      → e ≡ next_word text end s5 → s6 ≡ next_end text end s5
      → rest ≡ next_word text end s6
      → line_with kind a b c d e rest ≡ line_of text at end
  unfolding line_of
  line_is kind a b c d e rest s1 s2 s3 s4 s5 s6 k0 p1 a1 q2 b2 q3 c3 q4 d4 q5 e5 q6 r6 =
      let word = next_word text end in
      let p2 = along (next_end text end) s2 _ _ q2 p1 in
      let p3 = along (next_end text end) s3 _ _ q3 p2 in
      let p4 = along (next_end text end) s4 _ _ q4 p3 in
      let p5 = along (next_end text end) s5 _ _ q5 p4 in
      let p6 = along (next_end text end) s6 _ _ q6 p5 in
      λ i. record {
        kind = k0 i;
        a = along word a _ _ a1 p1 i;
        b = along word b _ _ b2 p2 i;
        c = along word c _ _ c3 p3 i;
        d = along word d _ _ d4 p4 i;
        e = along word e _ _ e5 p5 i;
        rest = along word rest _ _ r6 p6 i;
      }
