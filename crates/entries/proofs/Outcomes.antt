-- Two outcomes that a promise allows are equal: one theorem a public function, in the words of its contract. Assumes nothing.
use Prim.Native.Nat.{ℕ, ◌*◌, min}
use mathlib.Core.List.{List}
use Rattle.edition.specs.Limits.{node_limit, entry_width}
use Rattle.edition.specs.declared.Entry.{Entry}
use Rattle.entries.specs.Row.{entries_in, entry_at, put_entry, past_entries}
use Rattle.edition.proofs.Only.{One, one}

-- `entries::entries_in`
pub one_entries_in : (row : List ℕ) → One (entries_in row)
one_entries_in row = one _

-- `entries::entry_there`
pub one_entry_there : (row : List ℕ) (x : ℕ) → One (entry_at row x)
one_entry_there row x = one _

-- `entries::entry_at`
pub one_entry_at : (row : List ℕ) (x : ℕ) → One (entry_at row x)
one_entry_at row x = one _

-- `entries::put_there`
pub one_put_there : (row : List ℕ) (x : ℕ) (e : Entry) → One (put_entry row x e)
one_put_there row x e = one _

-- `entries::put_entry`
pub one_put_entry : (row : List ℕ) (x : ℕ) (e : Entry) → One (put_entry row x e)
one_put_entry row x e = one _

-- `entries::past_entries`
pub one_past_entries : (row : List ℕ) (n : ℕ) → One (past_entries n row)
one_past_entries row n = one _

-- `entries::numbers_of`
pub one_numbers_of : (n : ℕ) → One (min n node_limit * entry_width)
one_numbers_of n = one _
