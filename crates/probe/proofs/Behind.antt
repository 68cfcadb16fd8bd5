-- What lies behind the words that were read to the beginning of a row stays. Assumes nothing.
use mathlib.Core.Path.{◌≡◌, ap, ◌∙◌}
use mathlib.Core.Bool.{Bool, true, false}
use mathlib.Core.List.{List}
use Prim.Native.Nat.{ℕ}
use lib.ListN.{drop}
use lib.Seq.{drop_at}
use Rattle.test_words.specs.Words.{words_in}
use Rattle.test_words.proofs.Reading.{words_length}
use Rattle.probe.specs.Input.{row_read}

pub behind_read : (came : Bool) (raw : List ℕ) (n : ℕ) (row after : List ℕ) → after ≡ row_read came raw n row → drop n after ≡ drop n row
unfolding row_read
behind_read true raw n row after e = ap (drop n) e ∙ drop_at (words_in raw n) (drop n row) n (words_length raw n)
behind_read false raw n row after e = ap (drop n) e
