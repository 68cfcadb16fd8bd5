-- Two outcomes that a promise allows are equal: one theorem a public function, in the words of its contract. Assumes nothing.
use Prim.Native.Nat.{ℕ}
use mathlib.Core.List.{List}
use Rattle.numbers.specs.Bytes.{bytes_of, number_in}
use lib.Seq.{sets}
use Rattle.edition.proofs.Only.{One, one}

-- `numbers::two_at`
pub one_two_at : (bytes : List ℕ) (at : ℕ) → One (number_in bytes at 2)
one_two_at bytes at = one _

-- `numbers::put_number`
pub one_put_number : (bytes : List ℕ) (at k v : ℕ) → One (sets bytes at (bytes_of k v))
one_put_number bytes at k v = one _
