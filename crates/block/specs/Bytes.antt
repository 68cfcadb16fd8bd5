-- The checksum of RFC 1071, and bytes that are not 0. Assumes nothing.
use Rattle.std.specs.Prelude.{Bool, cond, not, List, ℕ, zero, suc, ◌+◌, ◌-◌, ◌/◌, eqb, ltb, length, get_or}
use Rattle.rows.specs.Count.{some_to}
use Rattle.numbers.specs.Bytes.{number_in, word_most}

-- RFC 1071: the sum of two 16-bit words, the carry added in again.
unfoldable pub ones_add : ℕ → ℕ → ℕ
ones_add a b = cond (ltb word_most (a + b)) (a + b - word_most) (a + b)

-- The sum of the first k 16-bit words.
unfoldable pub ones_sum : List ℕ → ℕ → ℕ
ones_sum s zero = 0
ones_sum s (suc k) = ones_add (ones_sum s k) (number_in s (k + k) 2)

-- RFC 1071's checksum of an even number of bytes: the complement of the sum of their 16-bit words.
unfoldable pub checksum : List ℕ → ℕ
checksum s = word_most - ones_sum s (length s / 2)

-- Is one of the k bytes from place i on not 0?
unfoldable pub dirty : List ℕ → ℕ → ℕ → Bool
dirty s i k = some_to (λ j. not (eqb (get_or s (i + j) 0) 0)) k
