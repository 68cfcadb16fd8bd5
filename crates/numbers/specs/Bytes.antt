-- Numbers in bytes, big-endian. Assumes nothing.
use Rattle.std.specs.Prelude.{List, [], ◌∷◌, ◌++◌, ℕ, zero, suc, ◌+◌, ◌*◌, ◌/◌, ◌%◌, get_or}

-- The number v in k bytes, big-endian; its low k bytes where it is larger.
unfoldable pub bytes_of : ℕ → ℕ → List ℕ
bytes_of zero v = []
bytes_of (suc k) v = bytes_of k (v / 256) ++ (v % 256 ∷ [])

-- The number that the k bytes from place i on stand for; bytes past the end count as 0.
unfoldable pub number_in : List ℕ → ℕ → ℕ → ℕ
number_in s i zero = 0
number_in s i (suc k) = number_in s i k * 256 + get_or s (i + k) 0

-- The largest 16-bit number.
abbrev pub word_most : ℕ
word_most = 65535
