-- Plain text: lines, words, and what a word is. A place past the text counts as the end of a line. Assumes nothing.
use Rattle.std.specs.Prelude.{Option, Some, None, option_and_then}
use Rattle.std.specs.Prelude.{Bool, cond, not, ◌&&◌, ◌||◌, List, [], ◌∷◌, ℕ, zero, suc, ◌+◌, ◌*◌, ◌-◌, min, eqb, leb, ltb, length, get_or}
use Rattle.edition.specs.Limits.{served, withdrawn}
use Rattle.rows.specs.Count.{some_to, sum_to, only_if}
use Rattle.text.specs.declared.Word.{Word}
use Rattle.text.specs.declared.Word.TheVariants.{Number, Root, Depth, Link, Node, Whole, Up, Down, Other, End}
use Rattle.text.specs.declared.Line.{Line}
use Rattle.text.specs.declared.Cursor.{Cursor}
use Rattle.text.specs.declared.Step.{Step}

-- The largest number that a word can be.
abbrev pub most_number : ℕ
most_number = 65535

-- The byte that ends a line.
abbrev pub newline : ℕ
newline = 10

-- The byte at a place.
unfoldable pub byte_at : List ℕ → ℕ → ℕ
byte_at text i = get_or text i newline

-- The first place that passes of the k from i on, or the place behind them.
unfoldable pub seek_from : (ℕ → Bool) → ℕ → ℕ → ℕ
seek_from p i zero = i
seek_from p i (suc k) = cond (p i) i (seek_from p (suc i) k)

-- Does a byte stand between words: a space, a tab, or the carriage return before an end of line?
unfoldable pub is_blank : ℕ → Bool
is_blank b = eqb b 32 || (eqb b 9 || eqb b 13)

-- Does a byte end a word: a blank, or the `#` that begins a comment?
unfoldable pub is_past : ℕ → Bool
is_past b = eqb b 35 || is_blank b

-- Where the line of a place ends.
unfoldable pub line_end : List ℕ → ℕ → ℕ
line_end text at = seek_from (λ i. eqb (byte_at text i) newline) at (length text - at)

-- Where the next word begins, from a place on and before the line's end, and where it ends.
unfoldable pub word_from : List ℕ → ℕ → ℕ → ℕ
word_from text at end = seek_from (λ i. not (is_blank (byte_at text i))) at (end - at)

unfoldable pub word_to : List ℕ → ℕ → ℕ → ℕ
word_to text from end = seek_from (λ i. is_past (byte_at text i)) from (end - from)

-- A number with one more digit; no number where that is none, or where it gets too large.
unfoldable pub with_digit : ℕ → ℕ → Option ℕ
with_digit v b =
    let longer = v * 10 + (b - 48) in
    cond (leb 48 b && (leb b 57 && leb longer most_number)) (Some longer) None

-- A number with the digits at the k places from i on; no number where one of them makes none.
unfoldable pub number_from : List ℕ → ℕ → ℕ → ℕ → Option ℕ
number_from text v i zero = Some v
number_from text v i (suc k) = option_and_then (λ w. number_from text w (suc i) k) (with_digit v (byte_at text i))

-- Are the bytes from one place to before another the name?
unfoldable pub is_named : List ℕ → ℕ → ℕ → List ℕ → Bool
is_named text from to name =
    eqb (from + length name) to && (leb to (length text) && not (some_to (λ i. not (eqb (byte_at text (from + i)) (get_or name i newline))) (length name)))

-- The word from one place to before another, by its name: link, node, root, depth.
unfoldable pub kind_of : List ℕ → ℕ → ℕ → Word
kind_of text from to =
    cond (is_named text from to (108 ∷ 105 ∷ 110 ∷ 107 ∷ [])) Link
    (cond (is_named text from to (110 ∷ 111 ∷ 100 ∷ 101 ∷ [])) Node
    (cond (is_named text from to (114 ∷ 111 ∷ 111 ∷ 116 ∷ [])) Root
    (cond (is_named text from to (100 ∷ 101 ∷ 112 ∷ 116 ∷ 104 ∷ [])) Depth Other)))

-- The same among all names: up, down, whole, and those.
unfoldable pub name_of : List ℕ → ℕ → ℕ → Word
name_of text from to =
    cond (is_named text from to (117 ∷ 112 ∷ [])) Up
    (cond (is_named text from to (100 ∷ 111 ∷ 119 ∷ 110 ∷ [])) Down
    (cond (is_named text from to (119 ∷ 104 ∷ 111 ∷ 108 ∷ 101 ∷ [])) Whole (kind_of text from to)))

-- The number where there is one, else the name.
unfoldable pub number_or : Option ℕ → Word → Word
number_or (Some number) name = Number number
number_or None name = name

-- What the word from one place to before another is.
unfoldable pub word_of : List ℕ → ℕ → ℕ → Word
word_of text from to = cond (leb to from) End (number_or (number_from text 0 from (to - from)) (name_of text from to))

-- The words of a line from a place to its end: what the next is, and where it ends.
unfoldable pub next_word : List ℕ → ℕ → ℕ → Word
next_word text end at = let from = word_from text at end in word_of text from (word_to text from end)

unfoldable pub next_end : List ℕ → ℕ → ℕ → ℕ
next_end text end at = word_to text (word_from text at end) end

unfoldable pub line_of : List ℕ → ℕ → ℕ → Line
line_of text at end =
    let a = next_end text end at in
    let b = next_end text end a in
    let c = next_end text end b in
    let d = next_end text end c in
    let e = next_end text end d in
    let rest = next_end text end e in
    record {
      kind = next_word text end at;
      a = next_word text end a;
      b = next_word text end b;
      c = next_word text end c;
      d = next_word text end d;
      e = next_word text end e;
      rest = next_word text end rest;
    }

-- The number of the line of a place: one more than how many lines end before it.
unfoldable pub line_number : List ℕ → ℕ → ℕ
line_number text at = sum_to (λ i. only_if (eqb (byte_at text i) newline) 1) (min at (length text)) + 1

-- The first line, which begins behind a byte order mark.
unfoldable pub first_line : List ℕ → Cursor
first_line text = record { at = cond (is_named text 0 3 (239 ∷ 187 ∷ 191 ∷ [])) 3 0; number = 1 }

-- What a line says, and the line behind it. No line of a text has a number over one more than the text's length.
unfoldable pub next_line : List ℕ → Cursor → Step
next_line text c =
    let end = line_end text c.at in
    record {
      line = line_of text c.at end;
      next = record { at = min end (length text) + 1; number = min c.number (length text) + 1 };
    }

-- Is the byte at a place a carriage return with no line feed behind it, and has the line of a place one, from there on?
unfoldable pub is_stray : List ℕ → ℕ → Bool
is_stray text i = eqb (byte_at text i) 13 && (eqb (i + 1) (length text) || not (eqb (byte_at text (i + 1)) newline))

unfoldable pub is_torn : List ℕ → ℕ → Bool
is_torn text at = let end = line_end text at in ltb (seek_from (is_stray text) at (end - at)) end

-- The service mark that a word names.
unfoldable pub mark_of : Word → ℕ
mark_of Up = served
mark_of _ = withdrawn
