-- The table is copied, entry by entry, from the row in which it was worked out. Assumes nothing.
use mathlib.Core.Path.{◌≡◌, refl, sym, ap, ◌∙◌}
use mathlib.Core.List.{List, ◌++◌}
use Prim.Native.Nat.{ℕ, ◌+◌, ◌<◌}
use Rattle.rows.specs.Count.{rows_to}
use Rattle.rows.specs.Records.{past_records}
use Rattle.rows.proofs.Put as put
use Rattle.rows.proofs.Records.{rows_cong}
use Rattle.entries.specs.Row.{entries_in, entry_row, entry_at, put_entry, past_entries}
use Rattle.entries.proofs.Keeping.{entry-sized}
use Rattle.swap.specs.Entry.{entry}
use Rattle.table.specs.Table.{table}
use Rattle.table.proofs.Whole.{table-entry}
use Rattle.archive.specs.declared.Header.{Header}
use Rattle.archive.specs.Reader.{nodes_read, head_read, net_read}
use Rattle.archive.specs.Work.{Tabled, copied}
use Rattle.archive.proofs.Reading.{nodes_read_lem}

-- the loop over the entries: none is copied at the start, and one more at each step
pub copied_none : (from before : List ℕ) → before ≡ copied from 0 before
unfolding copied rows_to past_entries past_records
copied_none from before = refl

pub copied_more :
    (from before : List ℕ) (k : ℕ)
    → k < entries_in before
    → put_entry (copied from k before) k (entry_at from k) ≡ copied from (k + 1) before
unfolding copied put_entry past_entries
copied_more from before k h = put.put_next _ (λ x. entry_row (entry_at from x)) k (λ x. entry-sized (entry_at from x)) before h

-- of the row in which the table of a file was worked out
module _ (file worked : List ℕ) (t : Tabled (net_read file) worked) (head : Header) (h : head ≡ head_read file) where
  nodes-is : head.nodes ≡ nodes_read file
  unfolding head_read
  nodes-is = ap (λ (k : Header). k.nodes) h

  pub entries-copied : (before row : List ℕ) → row ≡ copied worked head.nodes before → row ≡ table (net_read file) ++ past_entries (nodes_read file) before
  unfolding copied table
  entries-copied before row p =
      p
      ∙ (ap (λ (n : ℕ). rows_to (λ x. entry_row (entry_at worked x)) n ++ past_entries n before) nodes-is
      ∙ (ap (λ (n : ℕ). rows_to (λ x. entry_row (entry_at worked x)) n ++ past_entries (nodes_read file) before) (sym (nodes_read_lem file))
      ∙ ap (λ (r : List ℕ). r ++ past_entries (nodes_read file) before) (rows_cong _ _ (net_read file).nodes each)))
    where
      each : (x : ℕ) → x < (net_read file).nodes → entry_row (entry_at worked x) ≡ entry_row (entry (net_read file) x)
      each x l = ap entry_row (ap (λ (r : List ℕ). entry_at r x) t.is ∙ table-entry (net_read file) t.more x l)
