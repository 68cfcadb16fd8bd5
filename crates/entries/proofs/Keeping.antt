-- An entry that is put is read back, and every other stays; a row is its entries and what lies past them. Assumes nothing.
use mathlib.Core.Path.{◌≡◌, refl, ap, ◌∙◌}
use mathlib.Core.List.{List, ◌++◌}
use Prim.Native.Nat.{ℕ, ◌<◌, ◌≤◌}
use native.Mathlib.Omega.{arith}
use lib.ListN.{length}
use Rattle.edition.specs.declared.Entry.{Entry}
use Rattle.edition.specs.Limits.{entry_width}
use Rattle.rows.specs.Count.{rows_to}
use Rattle.rows.proofs.Put as put
use Rattle.entries.specs.Row.{entry_row, entries_in, standing, entry_from, entry_at, put_entry, past_entries}

-- numbers that are a record of entries
abbrev pub Sized : List ℕ → Type 0
Sized r = length r ≡ entry_width

pub entry-sized : (e : Entry) → Sized (entry_row e)
unfolding entry_row
entry-sized e = refl

-- the numbers of an entry are that entry
pub entry_from_lem : (e : Entry) → entry_from (entry_row e) ≡ e
unfolding entry_from entry_row
entry_from_lem e = refl

-- the entry of a record that is known
pub entry_known : (row : List ℕ) (x : ℕ) (e : Entry) → standing row x ≡ entry_row e → entry_at row x ≡ e
unfolding entry_at
entry_known row x e q = ap entry_from q ∙ entry_from_lem e

module _ (row : List ℕ) where
  pub standing-sized : (x : ℕ) → x < entries_in row → Sized (standing row x)
  unfolding standing
  standing-sized x h = put.record-size entry_width row x h

  pub row_entries : (n : ℕ) → n ≤ entries_in row → row ≡ rows_to (standing row) n ++ past_entries n row
  unfolding standing past_entries
  row_entries n h = put.row_records entry_width row n h

  module _ (x : ℕ) (e : Entry) where
    pub put_length : length (put_entry row x e) ≡ length row
    unfolding put_entry
    put_length = put.put_length entry_width row x (entry_row e)

    pub put_standing : x < entries_in row → standing (put_entry row x e) x ≡ entry_row e
    unfolding standing put_entry
    put_standing h = put.put_same entry_width row x (entry_row e) (entry-sized e) h

    pub put_stays : (y : ℕ) → (y ≡ x → ⊥) → standing (put_entry row x e) y ≡ standing row y
    unfolding standing put_entry
    put_stays y n = put.put_other entry_width row x (entry_row e) (entry-sized e) y n

    pub put_past : (n : ℕ) → x < n → past_entries n (put_entry row x e) ≡ past_entries n row
    unfolding past_entries put_entry
    put_past n h = put.put_past entry_width row x (entry_row e) (entry-sized e) n h

    -- what was put is read back
    pub put_back : x < entries_in row → entry_at (put_entry row x e) x ≡ e
    put_back h = entry_known (put_entry row x e) x e (put_standing h)

    -- every other entry stays
    pub put_kept : (y : ℕ) → (y ≡ x → ⊥) → entry_at (put_entry row x e) y ≡ entry_at row y
    unfolding entry_at
    put_kept y n = ap entry_from (put_stays y n)

-- records of entries one after the other, and more behind them
module _ (f : ℕ → List ℕ) (n : ℕ) (sized : (x : ℕ) → x < n → Sized (f x)) (more : List ℕ) where
  pub rows_past : past_entries n (rows_to f n ++ more) ≡ more
  unfolding past_entries
  rows_past = put.rows_past entry_width f n sized more

  pub rows_standing : (x : ℕ) → x < n → standing (rows_to f n ++ more) x ≡ f x
  unfolding standing
  rows_standing x l = put.rows_record entry_width f n sized more (omega arith) x l
