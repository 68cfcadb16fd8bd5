-- Lines one after the other: the next one begins behind this one, and the number that a cursor carries is that of its line, one
-- more than how many lines end before it. Assumes nothing.
use mathlib.Core.Path.{◌≡◌, refl, ◌∙◌}
use mathlib.Core.Bool.{Bool, true, false, cond, not}
use mathlib.Core.List.{List, [], ◌∷◌}
use Prim.Native.Nat.{ℕ, zero, suc, ◌+◌, ◌-◌, ◌<◌, ◌≤◌, min}
use native.Mathlib.Omega.{arith}
use lib.Dec.{eqb, leb}
use lib.ListN.{length, get_or}
use borrow.Author.Tests.{eqb-true, leb-true}
use Rattle.rows.proofs.Best.{some_none}
use Rattle.rows.proofs.Tests.{and_left, and_right}
use Rattle.rows.specs.Count.{sum_to, some_to, only_if}
use Rattle.rows.proofs.Counting.{sum_bound}
use Rattle.text.specs.declared.Cursor.{Cursor}
use Rattle.text.specs.declared.Step.{Step}
use Rattle.text.specs.Words.{newline, byte_at, seek_from, line_end, line_number, is_named, first_line, next_line}
use Rattle.text.proofs.Naming.{not_true, not_false}
use Rattle.text.proofs.Scanning.{seek_here, seek_past, seek_end}

-- How many of the places below k pass.
abbrev passing : (ℕ → Bool) → ℕ → ℕ
passing p k = sum_to (λ j. only_if (p j) 1) k

passed : (p : ℕ → Bool) (i : ℕ) → p i ≡ true → passing p (suc i) ≡ passing p i + 1
unfolding sum_to only_if
passed p i e = rw e

not_passed : (p : ℕ → Bool) (i : ℕ) → p i ≡ false → passing p (suc i) ≡ passing p i
unfolding sum_to only_if
not_passed p i e = rw e (omega arith)

at_most_one : (b : Bool) → only_if b 1 ≤ 1
unfolding only_if
at_most_one true = omega arith
at_most_one false = omega arith

few_pass : (p : ℕ → Bool) (k : ℕ) → passing p k ≤ k
few_pass p k = omega (arith, sum_bound (λ j. only_if (p j) 1) k 1 (λ j l. at_most_one (p j)))

-- r is the first of the k places from i on that passes, or the one behind them
record Sought (p : ℕ → Bool) (i k r : ℕ) : Type 0 where
  low : i ≤ r
  flat : passing p r ≡ passing p i
  hit : r < i + k → p r ≡ true

sought : (p : ℕ → Bool) (i k : ℕ) → Sought p i k (seek_from p i k)
sought p i zero = rw (seek_end p i) (record { low = omega arith; flat = refl; hit = λ l. absurd (omega arith) })
sought p i (suc k) = go (p i) refl (sought p (suc i) k)
  where
    go : (b : Bool) → p i ≡ b → Sought p (suc i) k (seek_from p (suc i) k) → Sought p i (suc k) (seek_from p i (suc k))
    go true e s = rw (seek_here p i k e) (record { low = omega arith; flat = refl; hit = λ l. e })
    go false e s =
        rw (seek_past p i k e)
        (record { low = omega (arith, s.low); flat = s.flat ∙ not_passed p i e; hit = λ l. s.hit (omega arith) })

-- Does a line end at a place?
abbrev ends : List ℕ → ℕ → Bool
ends text i = eqb (byte_at text i) newline

line_sought : (text : List ℕ) (at : ℕ) → Sought (ends text) at (length text - at) (line_end text at)
unfolding line_end
line_sought text at = sought (ends text) at (length text - at)

-- the number behind a place that passes, in numbers alone
counts_on :
    (p : ℕ → Bool) (at end stop n : ℕ)
    → Sought p at (stop - at) end → n ≡ passing p (min at stop) + 1 → min end stop + 1 ≤ stop
    → min n stop + 1 ≡ passing p (min (min end stop + 1) stop) + 1
counts_on p at end stop n s e l =
    let here : min at stop ≡ at = omega (arith, s.low) in
    let behind : min (min end stop + 1) stop ≡ suc end = omega arith in
    rw (behind, passed p end (s.hit (omega (arith, s.low))), s.flat)
    (omega (arith, rw here at e, few_pass p at, s.low))

-- the byte order mark
abbrev mark : List ℕ
mark = 239 ∷ 187 ∷ 191 ∷ []

-- Is a byte of a text not that of the mark?
abbrev unmarked : List ℕ → ℕ → Bool
unmarked text i = not (eqb (byte_at text i) (get_or mark i newline))

-- a text that begins with the mark has its three bytes, and no line ends at one of them
mark_at : (text : List ℕ) → is_named text 0 3 mark ≡ true → (i : ℕ) → i < 3 → byte_at text i ≡ get_or mark i newline
unfolding is_named some_to
mark_at text e i l =
    let none : some_to (unmarked text) 3 ≡ false = not_false _ (and_right (leb 3 (length text)) (not (some_to (unmarked text) 3)) e) in
    eqb-true (byte_at text i) (get_or mark i newline) (not_true _ (some_none (unmarked text) 3 none i l))

mark_within : (text : List ℕ) → is_named text 0 3 mark ≡ true → 3 ≤ length text
unfolding is_named some_to
mark_within text e = leb-true 3 (length text) (and_left (leb 3 (length text)) (not (some_to (unmarked text) 3)) e)

mark_goes_on : (text : List ℕ) → is_named text 0 3 mark ≡ true → (i : ℕ) → i < 3 → eqb (get_or mark i newline) newline ≡ false → ends text i ≡ false
mark_goes_on text e i l f = rw (mark_at text e i l) f

mark_one : (text : List ℕ) → is_named text 0 3 mark ≡ true → 1 ≡ line_number text 3
unfolding line_number sum_to
mark_one text e =
    let all : min 3 (length text) ≡ 3 = omega (arith, mark_within text e) in
    let first = not_passed (ends text) 0 (mark_goes_on text e 0 (omega arith) refl) in
    let second = not_passed (ends text) 1 (mark_goes_on text e 1 (omega arith) refl) in
    let third = not_passed (ends text) 2 (mark_goes_on text e 2 (omega arith) refl) in
    rw all (omega (arith, first, second, third))

start-one : (text : List ℕ) → 1 ≡ line_number text 0
unfolding line_number sum_to
start-one text = let none : min 0 (length text) ≡ 0 = omega arith in rw none

-- the first line carries its number, and so does the next one of a line that does, where the text has it
pub number_first : (text : List ℕ) → (first_line text).number ≡ line_number text (first_line text).at
unfolding first_line
number_first text = go (is_named text 0 3 mark) refl
  where
    go : (b : Bool) → is_named text 0 3 mark ≡ b → 1 ≡ line_number text (cond (is_named text 0 3 mark) 3 0)
    go true e = rw e (mark_one text e)
    go false e = rw e (start-one text)

module _ (text : List ℕ) (c : Cursor) where
  -- the next line begins further on: less of the text is left
  pub goes_on : (s : Step) → s ≡ next_line text c → c.at < length text → length text - s.next.at < length text - c.at
  unfolding next_line
  goes_on s e l = rw e (omega (arith, (line_sought text c.at).low))

  pub number_next :
      c.number ≡ line_number text c.at
      → (next_line text c).next.at ≤ length text
      → (next_line text c).next.number ≡ line_number text (next_line text c).next.at
  unfolding next_line line_number
  number_next e l = counts_on (ends text) c.at (line_end text c.at) (length text) c.number (line_sought text c.at) e l
