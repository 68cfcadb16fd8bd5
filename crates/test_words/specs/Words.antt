-- What bytes say as 16-bit words. Assumes nothing.
use Rattle.std.specs.Prelude.{List, [], ◌∷◌, ℕ, ◌*◌}
use Rattle.rows.specs.Count.{rows_to}
use Rattle.numbers.specs.Bytes.{number_in}
use Rattle.test_words.specs.declared.Head.{Head}

-- Word i of bytes, the high byte first; bytes past the end count as 0.
unfoldable pub word_in : List ℕ → ℕ → ℕ
word_in bytes i = number_in bytes (2 * i) 2

-- The first n words of bytes.
unfoldable pub words_in : List ℕ → ℕ → List ℕ
words_in bytes n = rows_to (λ i. word_in bytes i ∷ []) n

-- The head that bytes begin with.
unfoldable pub head_in : List ℕ → Head
head_in bytes =
    record {
      nodes = word_in bytes 0;
      links = word_in bytes 1;
      search = record { root = word_in bytes 2; depth = word_in bytes 3; rule = word_in bytes 5 };
      count = word_in bytes 4;
    }
