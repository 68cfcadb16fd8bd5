-- A row of records, w numbers each. Only whole records count; what is left over at the end belongs to none. Assumes nothing.
use Rattle.std.specs.Prelude.{cond, List, [], ℕ, ◌*◌, ◌/◌, ltb, length, take, drop}
use Rattle.std.proofs.lemmas.List.Edits.{sets}

-- How many whole records a row holds.
abbrev pub records_in : ℕ → List ℕ → ℕ
records_in w row = length row / w

-- The numbers of record k; none where there is no such record.
unfoldable pub record_in : ℕ → List ℕ → ℕ → List ℕ
record_in w row k = cond (ltb k (records_in w row)) (take w (drop (k * w) row)) []

-- The row with these w numbers as record k; as it was where there is no such record.
unfoldable pub with_record : ℕ → List ℕ → ℕ → List ℕ → List ℕ
with_record w row k new = cond (ltb k (records_in w row)) (sets row (k * w) new) row

-- The first n records; all of the row where it holds fewer.
unfoldable pub first_records : ℕ → ℕ → List ℕ → List ℕ
first_records w n row = take (n * w) row

-- What lies past the first n records.
unfoldable pub past_records : ℕ → ℕ → List ℕ → List ℕ
past_records w n row = drop (n * w) row
