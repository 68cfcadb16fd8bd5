-- What the bytes of a case say. Assumes nothing.
use Rattle.std.specs.Prelude.{Bool, cond, None, Option, Some, List, ◌++◌, ℕ, ◌+◌, ◌*◌, drop}
use Rattle.test_words.specs.Words.{word_in, words_in}
use Rattle.probe.specs.declared.input.Head.{Head}

-- Words i and i + 1 as one number, the high word first.
unfoldable pub long_in : List ℕ → ℕ → ℕ
long_in raw i = word_in raw i * 65536 + word_in raw (i + 1)

-- The head that bytes are. Words 4 and 5 are the room, and each for itself the length of a row.
unfoldable pub head_in : List ℕ → Head
head_in raw =
    record {
      op = word_in raw 0;
      parents = word_in raw 1;
      rest = long_in raw 2;
      room = long_in raw 4;
      ordinary = word_in raw 4;
      detour = word_in raw 5;
      search = record { root = word_in raw 6; depth = word_in raw 7; rule = word_in raw 11 };
      a = word_in raw 8;
      b = word_in raw 9;
      c = word_in raw 10;
    }

-- What a head is read to be: the head that the bytes are, or none at the end of the input.
pub data HeadRead (raw : List ℕ) : Option Head → Type 0 where
  is_head : HeadRead raw (Some (head_in raw))
  is_end : HeadRead raw None

-- A row after n words were asked for: with the words of the bytes at its beginning where they came, as it was where not.
unfoldable pub row_read : Bool → List ℕ → ℕ → List ℕ → List ℕ
row_read came raw n row = cond came (words_in raw n ++ drop n row) row
