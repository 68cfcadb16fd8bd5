-- Two outcomes that a promise allows are equal: one theorem a public function, in the words of its contract. Assumes nothing.
use Prim.Native.Nat.{ℕ}
use mathlib.Core.List.{List}
use Rattle.change.specs.Change.{change_verdict, Lent, changed}
use Rattle.doeragyeol.specs.Calls.{lent_net, filed_net, lent_rows, check_said, sizes_row, map_said, words_row, open_row, write_said, file_row, length_row}
use Rattle.doeragyeol.specs.Calls.{read_said, rows_left, header_row, forward_said, ordinary_left, detour_left, way_row}
use Rattle.doeragyeol.specs.Calls.{tree_net, distance_said, apart_row}
use Rattle.doeragyeol.specs.Word.{version, word_of}
use Rattle.edition.specs.declared.Change.{Change}
use Rattle.edition.specs.declared.Measure.TheVariants.{Sum, Incr, Max}
use Rattle.forward.specs.declared.Ask.{Ask}
use Rattle.table.specs.Table.{table_verdict, table_row}
use lib.ListN.{length}
use Rattle.edition.proofs.Only.{One, one}

-- `doeragyeol::doeragyeol_version_6`
pub one_doeragyeol_version_6 : One (version)
one_doeragyeol_version_6 = one _

-- `doeragyeol::doeragyeol_check`
pub one_doeragyeol_check :
    (links parents : List ℕ) (root depth rule : ℕ) (sizes : List ℕ) →
    let g = lent_net links parents root depth rule in
    One (word_of (check_said g sizes))
    × One (sizes_row g sizes)
one_doeragyeol_check links parents root depth rule sizes = (one _, one _)

-- `doeragyeol::doeragyeol_table`
pub one_doeragyeol_table :
    (links parents : List ℕ) (root depth rule : ℕ) (entries : List ℕ) →
    let g = lent_net links parents root depth rule in
    One (word_of (table_verdict g entries))
    × One (table_row g entries)
one_doeragyeol_table links parents root depth rule entries = (one _, one _)

-- `doeragyeol::doeragyeol_map`
pub one_doeragyeol_map :
    (links parents : List ℕ) (root depth rule : ℕ) (words told : List ℕ) →
    let g = lent_net links parents root depth rule in
    let words' = words in
    let told' = told in
    One (word_of (map_said g words' told'))
    × One (words_row g words' told')
    × One (open_row g words' told')
one_doeragyeol_map links parents root depth rule words told = (one _, one _, one _)

-- `doeragyeol::doeragyeol_change`
pub one_doeragyeol_change :
    (links parents : List ℕ) (root depth rule : ℕ) (entries : List ℕ) (link mark length : ℕ) →
    let lent : Lent = record { links = links; entries = entries } in
    let g = lent_net links parents root depth rule in
    let change : Change = record { link = link; mark = mark; length = length } in
    let after = changed parents (record { root = root; depth = depth; rule = rule }) change lent in
    One (word_of (change_verdict g entries change))
    × One after.links
    × One after.entries
one_doeragyeol_change links parents root depth rule entries link mark length = (one _, one _, one _)

-- `doeragyeol::doeragyeol_write`
pub one_doeragyeol_write :
    (links parents : List ℕ) (root depth : ℕ) (file size : List ℕ) →
    let g = filed_net links parents root depth in
    let file' = file in
    let size' = size in
    One (word_of (write_said g file' size'))
    × One (file_row g file' size')
    × One (length_row g file' size')
one_doeragyeol_write links parents root depth file size = (one _, one _, one _)

-- `doeragyeol::doeragyeol_read`
pub one_doeragyeol_read :
    (file links parents entries header : List ℕ) →
    let rows = lent_rows links parents entries in
    let file' = file in
    let header' = header in
    let left = rows_left file' rows header' in
    One (word_of (read_said file' rows header'))
    × One left.links
    × One left.parents
    × One left.entries
    × One (header_row file' rows header')
one_doeragyeol_read file links parents entries header = (one _, one _, one _, one _, one _)

-- `doeragyeol::doeragyeol_forward_sum`
pub one_doeragyeol_forward_sum :
    (links parents : List ℕ) (root depth rule start failed : ℕ) (ordinary detour way : List ℕ) →
    let g = lent_net links parents root depth rule in
    let a : Ask = record { start = start; failed = failed; measure = Sum } in
    let o = ordinary in
    let d = detour in
    let way' = way in
    One (word_of (forward_said g a o d way'))
    × One (ordinary_left g a o d way')
    × One (detour_left g a o d way')
    × One (way_row g a o d way')
one_doeragyeol_forward_sum links parents root depth rule start failed ordinary detour way = (one _, one _, one _, one _)

-- `doeragyeol::doeragyeol_forward_incr`
pub one_doeragyeol_forward_incr :
    (links parents : List ℕ) (root depth rule start failed : ℕ) (ordinary detour way : List ℕ) →
    let g = lent_net links parents root depth rule in
    let a : Ask = record { start = start; failed = failed; measure = Incr } in
    let o = ordinary in
    let d = detour in
    let way' = way in
    One (word_of (forward_said g a o d way'))
    × One (ordinary_left g a o d way')
    × One (detour_left g a o d way')
    × One (way_row g a o d way')
one_doeragyeol_forward_incr links parents root depth rule start failed ordinary detour way = (one _, one _, one _, one _)

-- `doeragyeol::doeragyeol_forward_max`
pub one_doeragyeol_forward_max :
    (links parents : List ℕ) (root depth rule start failed : ℕ) (ordinary detour way : List ℕ) →
    let g = lent_net links parents root depth rule in
    let a : Ask = record { start = start; failed = failed; measure = Max } in
    let o = ordinary in
    let d = detour in
    let way' = way in
    One (word_of (forward_said g a o d way'))
    × One (ordinary_left g a o d way')
    × One (detour_left g a o d way')
    × One (way_row g a o d way')
one_doeragyeol_forward_max links parents root depth rule start failed ordinary detour way = (one _, one _, one _, one _)

-- `doeragyeol::doeragyeol_distance`
pub one_doeragyeol_distance :
    (links parents : List ℕ) (root from to : ℕ) (distance : List ℕ) →
    let g = tree_net links parents root in
    One (word_of (distance_said g from to distance))
    × One (apart_row g from to distance)
one_doeragyeol_distance links parents root from to distance = (one _, one _)
