-- The loops over a text: what they keep, and what they end with. Assumes nothing.
use mathlib.Core.Path.{◌≡◌, refl, sym, ap, ◌∙◌}
use mathlib.Core.Bool.{Bool, true, false}
use mathlib.Core.List.{List}
use Prim.Native.Nat.{ℕ, suc, ◌+◌, ◌-◌, ◌<◌, ◌≤◌, max}
use native.Mathlib.Numerals.{add-one}
use native.Mathlib.Omega.{arith}
use lib.Dec.{leb}
use lib.ListN.{length, get_or-eq_default}
use borrow.Author.Tests.{leb-true, leb-false}
use Rattle.std.specs.Prelude.{Some, None, option_and_then}
use Rattle.text.specs.Words.{newline, byte_at, seek_from, with_digit, number_from}

-- of the places from i to before `stop` the first is i
less_one : (i stop : ℕ) → i < stop → stop - i ≡ suc (stop - suc i)
less_one i stop l = omega arith

none_left : (i stop : ℕ) → stop ≤ i → stop - i ≡ 0
none_left i stop l = omega arith

pub seek_here : (p : ℕ → Bool) (i k : ℕ) → p i ≡ true → seek_from p i (suc k) ≡ i
unfolding seek_from
seek_here p i k e = rw e

pub seek_past : (p : ℕ → Bool) (i k : ℕ) → p i ≡ false → seek_from p i (suc k) ≡ seek_from p (suc i) k
unfolding seek_from
seek_past p i k e = rw e

pub seek_end : (p : ℕ → Bool) (i : ℕ) → seek_from p i 0 ≡ i
unfolding seek_from
seek_end p i = refl

-- a place past the text has the end of a line, so one with another byte is in it
pub other_within : (text : List ℕ) (i b : ℕ) → b ≡ byte_at text i → (b ≡ newline → ⊥) → i < length text
unfolding byte_at
other_within text i b e n = go (leb (length text) i) refl
  where
    go : (t : Bool) → leb (length text) i ≡ t → i < length text
    go true h = absurd (n (e ∙ get_or-eq_default text newline (leb-true (length text) i h)))
    go false h = leb-false (length text) i h

-- the first place that passes is not before i
pub record Scanning (p : ℕ → Bool) (from stop i : ℕ) : Type 0 where
  pub is : seek_from p from (stop - from) ≡ seek_from p i (stop - i)

module _ (p : ℕ → Bool) (from stop : ℕ) where
  module _ (i : ℕ) (s : Scanning p from stop i) where
    pub scan_more : i < stop → p i ≡ false → Scanning p from stop (i + 1)
    scan_more l e =
        record { is = rw add-one (s.is ∙ (ap (seek_from p i) (less_one i stop l) ∙ seek_past p i (stop - suc i) e)) }

    pub scan_found : i < stop → p i ≡ true → i ≡ seek_from p from (stop - from)
    scan_found l e = sym (s.is ∙ (ap (seek_from p i) (less_one i stop l) ∙ seek_here p i (stop - suc i) e))

    -- no place passes: the loop has come to its end, or had none
    pub scan_none : stop ≤ i → (from ≤ stop → i ≤ stop) → (r : ℕ) → r ≡ max from stop → r ≡ seek_from p from (stop - from)
    scan_none l m r q = go (leb from stop) refl
      where
        go : (b : Bool) → leb from stop ≡ b → r ≡ seek_from p from (stop - from)
        go true e =
            let end : r ≡ i = omega (arith, leb-true from stop e) in
            end ∙ sym (s.is ∙ (ap (seek_from p i) (none_left i stop l) ∙ seek_end p i))
        go false e =
            let start : r ≡ from = omega (arith, leb-false from stop e) in
            start ∙ sym (ap (seek_from p from) (none_left from stop (omega (arith, leb-false from stop e))) ∙ seek_end p from)

number_more :
    (text : List ℕ) (v i k w : ℕ)
    → Some w ≡ with_digit v (byte_at text i) → number_from text v i (suc k) ≡ number_from text w (suc i) k
unfolding number_from
number_more text v i k w e = ap (option_and_then (λ u. number_from text u (suc i) k)) (sym e)

number_none : (text : List ℕ) (v i k : ℕ) → None ≡ with_digit v (byte_at text i) → number_from text v i (suc k) ≡ None
unfolding number_from
number_none text v i k e = ap (option_and_then (λ u. number_from text u (suc i) k)) (sym e)

number_end : (text : List ℕ) (v i : ℕ) → number_from text v i 0 ≡ Some v
unfolding number_from
number_end text v i = refl

-- the number is v with the digits from i on
pub record Spelling (text : List ℕ) (from to v i : ℕ) : Type 0 where
  pub is : number_from text 0 from (to - from) ≡ number_from text v i (to - i)

module _ (text : List ℕ) (from to : ℕ) where
  module _ (v i : ℕ) (s : Spelling text from to v i) where
    pub spell_more : i < to → (w : ℕ) → Some w ≡ with_digit v (byte_at text i) → Spelling text from to w (i + 1)
    spell_more l w e =
        record {
          is =
              rw add-one
              (s.is ∙ (ap (number_from text v i) (less_one i to l) ∙ number_more text v i (to - suc i) w e));
        }

    pub spell_none : i < to → None ≡ with_digit v (byte_at text i) → None ≡ number_from text 0 from (to - from)
    spell_none l e = sym (s.is ∙ (ap (number_from text v i) (less_one i to l) ∙ number_none text v i (to - suc i) e))

    pub spell_done : to ≤ i → Some v ≡ number_from text 0 from (to - from)
    spell_done l = sym (s.is ∙ (ap (number_from text v i) (none_left i to l) ∙ number_end text v i))

-- the goals of a loop that spells a number
pub ruleset spelling = (spell_more, spell_none, spell_done)

-- the goals of a loop that seeks
pub ruleset scans = (scan_more, scan_found, scan_none)
