-- What private functions of this crate promise each other. No public promise cites this page. Assumes nothing.
use Rattle.std.specs.Prelude.{Bool, cond, not, List, ◌∷◌, ◌++◌, ℕ, ◌+◌, ◌-◌, ◌/◌, ◌%◌, eqb, take, drop}
use Rattle.std.proofs.lemmas.List.Edits.{sets}
use Rattle.block.specs.declared.Kind.{Kind}
use Rattle.block.specs.declared.Kind.TheVariants.{Header, Links, Table}
use Rattle.edition.specs.Stored.{block_bytes, front_bytes, header_kind, links_kind, table_kind}
use Rattle.rows.specs.Lists.{same}
use Rattle.numbers.specs.Bytes.{number_in, word_most}
use Rattle.block.specs.Block.{front}

-- how many 16-bit words a block has
abbrev pub block_words : ℕ
block_words = block_bytes / 2

-- bytes 6-7 taken as zero
unfoldable pub blanked : List ℕ → List ℕ
blanked b = take 6 b ++ 0 ∷ 0 ∷ drop front_bytes b

-- word k of a block whose word 3 counts as 0
unfoldable pub word_of : List ℕ → ℕ → ℕ
word_of b k = cond (eqb k 3) 0 (number_in b (k + k) 2)

-- a plain sum of words, with what is carried out of 16 bits added in again
unfoldable pub folded_sum : ℕ → ℕ
folded_sum sum = cond (eqb sum 0) 0 ((sum - 1) % word_most + 1)

-- is the front another than the one asked?
unfoldable pub bad_front : ℕ → ℕ → ℕ → List ℕ → Bool
bad_front kind number used b = not (same (take 6 b) (front kind number used))

-- a row with a front at its beginning
unfoldable pub with_front : ℕ → ℕ → ℕ → List ℕ → List ℕ
with_front kind number used b = sets b 0 (front kind number used)

-- byte 0 of a block of a kind
abbrev pub kind_byte : Kind → ℕ
kind_byte Header = header_kind
kind_byte Links = links_kind
kind_byte Table = table_kind
