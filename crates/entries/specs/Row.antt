-- A row of entries: how many it holds, the entry of a node, an entry that is put, what lies past the entries. Assumes nothing.
use Rattle.std.specs.Prelude.{List, [], ◌∷◌, ℕ, get_or}
use Rattle.edition.specs.declared.Entry.{Entry}
use Rattle.edition.specs.Limits.{entry_width}
use Rattle.rows.specs.Records.{records_in, record_in, with_record, past_records}

-- How many whole entries a row holds.
abbrev pub entries_in : List ℕ → ℕ
entries_in row = records_in entry_width row

-- The record of x in a row of entries, as it stands.
unfoldable pub standing : List ℕ → ℕ → List ℕ
standing row x = record_in entry_width row x

-- The numbers of an entry's record: state; links, costs and marks of the lower end, each for sum, incr and max.
unfoldable pub entry_row : Entry → List ℕ
entry_row e =
    e.state ∷ e.sum.link ∷ e.incr.link ∷ e.max.link ∷ e.sum.cost ∷ e.incr.cost ∷ e.max.cost
    ∷ e.sum.lower ∷ e.incr.lower ∷ e.max.lower ∷ []

-- The entry that the numbers of a record are.
unfoldable pub entry_from : List ℕ → Entry
entry_from r =
    record {
      state = get_or r 0 0;
      sum = record { link = get_or r 1 0; cost = get_or r 4 0; lower = get_or r 7 0 };
      incr = record { link = get_or r 2 0; cost = get_or r 5 0; lower = get_or r 8 0 };
      max = record { link = get_or r 3 0; cost = get_or r 6 0; lower = get_or r 9 0 };
    }

-- The entry of x in a row; every number is 0 where the row holds none.
unfoldable pub entry_at : List ℕ → ℕ → Entry
entry_at row x = entry_from (standing row x)

-- The row with this entry in the record of x; as it was where there is no such record.
unfoldable pub put_entry : List ℕ → ℕ → Entry → List ℕ
put_entry row x e = with_record entry_width row x (entry_row e)

-- What lies past the first n entries.
unfoldable pub past_entries : ℕ → List ℕ → List ℕ
past_entries n row = past_records entry_width n row
