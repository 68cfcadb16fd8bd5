-- Two outcomes that a promise allows are equal: one theorem a public function, in the words of its contract. Assumes nothing.
use Rattle.std.proofs.Common.{ℕ, List, ◌++◌, length}
use Rattle.edition.specs.declared.Search.{Search}
use Rattle.entries.specs.Row.{past_entries}
use Rattle.network.specs.Network.{net_of}
use Rattle.rows.specs.Count.{rows_to}
use Rattle.sound.specs.Surveyed.{sound_row}
use Rattle.swap.specs.Entry.{entry}
use Rattle.table.specs.Table.{fresh_at, table_verdict, work_verdict, fresh_row, table_row, entry_verdict, entry_answer}
use Rattle.edition.proofs.Only.{One, one}

-- `table::refresh_surveyed`
pub one_refresh_surveyed :
    (links parents : List ℕ) (search : Search) (survey asked entries : List ℕ) →
    let g = net_of links parents search in
    let n = length parents in
    let before = entries in
    One (rows_to (fresh_at g asked before) n ++ past_entries n before)
one_refresh_surveyed links parents search survey asked entries = one _

-- `table::check_table`
pub one_check_table :
    (links parents : List ℕ) (search : Search) (entries : List ℕ) →
    let g = net_of links parents search in
    One (table_verdict g entries)
one_check_table links parents search entries = one _

-- `table::survey_table`
pub one_survey_table :
    (links parents : List ℕ) (search : Search) (survey entries : List ℕ) →
    let g = net_of links parents search in
    One (work_verdict g survey entries)
    × One (sound_row g survey)
one_survey_table links parents search survey entries = (one _, one _)

-- `table::refresh`
pub one_refresh :
    (links parents : List ℕ) (search : Search) (asked entries : List ℕ) →
    let g = net_of links parents search in
    One (table_verdict g entries)
    × One (fresh_row g asked entries)
one_refresh links parents search asked entries = (one _, one _)

-- `table::table`
pub one_table :
    (links parents : List ℕ) (search : Search) (entries : List ℕ) →
    let g = net_of links parents search in
    One (table_verdict g entries)
    × One (table_row g entries)
one_table links parents search entries = (one _, one _)

-- `table::check_entry`
pub one_check_entry :
    (links parents : List ℕ) (search : Search) (x : ℕ) →
    let g = net_of links parents search in
    One (entry_verdict g x)
one_check_entry links parents search x = one _

-- `table::entry_surveyed`
pub one_entry_surveyed :
    (links parents : List ℕ) (search : Search) (survey : List ℕ) (x : ℕ) →
    let g = net_of links parents search in
    One (entry g x)
one_entry_surveyed links parents search survey x = one _

-- `table::entry_of`
pub one_entry_of :
    (links parents : List ℕ) (search : Search) (x : ℕ) →
    let g = net_of links parents search in
    One (entry_answer g x)
one_entry_of links parents search x = one _
