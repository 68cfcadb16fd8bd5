-- A row of entries: the entry of a node whose record is known, an entry that is written, the row as a list. Assumes nothing.
use Rattle.std.proofs.Common.{◌≡◌, ℕ, ◌<◌, ◌≤◌, Bool, true, false, cond, eqb, List, ◌++◌, sym, refl, ◌∙◌, subst, ap₂, arith, eqb-true}
use borrow.Author.Tests.{eqb-false}
use Rattle.edition.specs.declared.Entry.{Entry}
use Rattle.entries.specs.Row.{entry_row, entries_in, standing, entry_at, put_entry, past_entries}
use Rattle.entries.proofs.Keeping as keeping
use Rattle.rows.specs.Count.{rows_to}
use Rattle.rows.proofs.Records.{rows_cong}
use Rattle.table.specs.Work.{Entries}

-- the entry of a node whose record is known
pub entry_known : (n : ℕ) (f : ℕ → List ℕ) (before row : List ℕ) (x : ℕ) (e : Entry) → Entries n f before row → x < n → f x ≡ entry_row e → entry_at row x ≡ e
entry_known n f before row x e h l q = keeping.entry_known row x e (h.each x l ∙ q)

-- an entry is written
pub entries_put :
    (n : ℕ) (f : ℕ → List ℕ) (before row : List ℕ) (x : ℕ) (e : Entry)
    → Entries n f before row → x < n → n ≤ entries_in before
    → Entries n (λ y. cond (eqb x y) (entry_row e) (f y)) before (put_entry row x e)
entries_put n f before row x e h l room =
    record {
      size = keeping.put_length row x e ∙ h.size;
      each = λ y m. at y m (eqb x y) refl;
      rest = keeping.put_past row x e n l ∙ h.rest;
    }
  where
    there : x < entries_in row
    there = omega (arith, l, room, h.size)

    at : (y : ℕ) → y < n → (b : Bool) → eqb x y ≡ b → standing (put_entry row x e) y ≡ cond b (entry_row e) (f y)
    at y m true q =
        subst (λ (v : ℕ). standing (put_entry row x e) v ≡ entry_row e) (eqb-true x y q) (keeping.put_standing row x e there)
    at y m false q = keeping.put_stays row x e y (λ z. eqb-false x y q (sym z)) ∙ h.each y m

-- the row as a list: the records one after the other, and what lay past them
pub entries_list : (n : ℕ) (f : ℕ → List ℕ) (before row : List ℕ) → n ≤ entries_in before → Entries n f before row → row ≡ rows_to f n ++ past_entries n before
entries_list n f before row room h =
    keeping.row_entries row n (omega (arith, room, h.size))
    ∙ ap₂ (λ (r s : List ℕ). r ++ s) (rows_cong (standing row) f n h.each) h.rest
