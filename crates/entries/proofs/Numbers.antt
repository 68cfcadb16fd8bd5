-- The numbers of an entry, where they stand in a row. Assumes nothing.
use mathlib.Core.Path.{◌≡◌, sym, ap, ◌∙◌}
use mathlib.Core.List.{List, []}
use Prim.Native.Nat.{ℕ, suc, ◌+◌, ◌*◌, ◌<◌, ◌≤◌}
use native.Mathlib.Omega.{arith}
use lib.ListN.{get_or}
use borrow.Author.Tests.{lt-ltb, le-ltb}
use Rattle.edition.specs.declared.Entry.{Entry}
use Rattle.edition.specs.Limits.{entry_width}
use Rattle.rows.specs.Records.{with_record}
use Rattle.rows.proofs.Put as put
use lib.Seq.{sets}
use Rattle.entries.specs.Row.{entry_row, entries_in, standing, entry_from, entry_at, put_entry}

-- the last place of a record, from its first
pub add-nine : (n : ℕ) → n + 9 ≡ suc (suc (suc (suc (suc (suc (suc (suc (suc n))))))))
add-nine n = omega arith

module _ (row : List ℕ) (x : ℕ) where
  pub entry-none : entries_in row ≤ x → entry_from [] ≡ entry_at row x
  unfolding entry_at standing
  entry-none h = ap entry_from (sym (put.record-none entry_width row x h))

  module _ (h : x < entries_in row) where
    number : (i : ℕ) → i < entry_width → get_or row (x * entry_width + i) 0 ≡ get_or (standing row x) i 0
    unfolding standing
    number i l = sym (put.record_number entry_width row x i h l)

    zeroth : get_or row (x * entry_width) 0 ≡ get_or (standing row x) 0 0
    zeroth =
        let none : x * entry_width ≡ x * entry_width + 0 = omega arith in
        ap (λ (j : ℕ). get_or row j 0) none ∙ number 0 (omega arith)

    pub entry-there :
        ◌≡◌ {A = Entry}
        (record {
          state =
              get_or row (x * entry_width) 0;
          sum =
              record { link = get_or row (x * entry_width + 1) 0; cost = get_or row (x * entry_width + 4) 0; lower = get_or row (x * entry_width + 7) 0 };
          incr =
              record { link = get_or row (x * entry_width + 2) 0; cost = get_or row (x * entry_width + 5) 0; lower = get_or row (x * entry_width + 8) 0 };
          max =
              record
              { link = get_or row (x * entry_width + 3) 0; cost = get_or row (x * entry_width + 6) 0; lower = get_or row (x * entry_width + 9) 0 };
        })
        (entry_at row x)
    unfolding entry_at entry_from
    entry-there =
        λ i.
        record {
          state = zeroth i;
          sum = record { link = number 1 (omega arith) i; cost = number 4 (omega arith) i; lower = number 7 (omega arith) i };
          incr = record { link = number 2 (omega arith) i; cost = number 5 (omega arith) i; lower = number 8 (omega arith) i };
          max = record { link = number 3 (omega arith) i; cost = number 6 (omega arith) i; lower = number 9 (omega arith) i };
        }

    pub put_stored : (e : Entry) → sets row (x * entry_width) (entry_row e) ≡ put_entry row x e
    unfolding put_entry with_record
    put_stored e = rw (lt-ltb x (entries_in row) h)

  pub put_nothing : (e : Entry) → entries_in row ≤ x → row ≡ put_entry row x e
  unfolding put_entry with_record
  put_nothing e h = rw (le-ltb x (entries_in row) h)
