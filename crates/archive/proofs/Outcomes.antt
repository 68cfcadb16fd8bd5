-- Two outcomes that a promise allows are equal: one theorem a public function, in the words of its contract. Assumes nothing.
use Prim.Native.Nat.{ℕ}
use mathlib.Core.List.{List}
use Rattle.archive.specs.Reader.{Rows, read_verdict, read_answer, rows_read}
use Rattle.archive.specs.Writer.{write_verdict, write_answer, written_row}
use Rattle.edition.specs.Stored.{by_number}
use Rattle.edition.specs.declared.Aim.{Aim}
use Rattle.network.specs.Network.{net_of}
use Rattle.edition.proofs.Only.{One, one}

-- `archive::check_write`
pub one_check_write :
    (links parents : List ℕ) (aim : Aim) (file : List ℕ) →
    let g = net_of links parents (by_number aim) in
    One (write_verdict g file)
one_check_write links parents aim file = one _

-- `archive::write`
pub one_write :
    (links parents : List ℕ) (aim : Aim) (file : List ℕ) →
    let g = net_of links parents (by_number aim) in
    One (write_answer g file)
    × One (written_row g file)
one_write links parents aim file = (one _, one _)

-- `archive::check_read`
pub one_check_read :
    (file links parents entries : List ℕ) →
    let rows : Rows = record { links = links; parents = parents; entries = entries } in
    One (read_verdict file rows)
one_check_read file links parents entries = one _

-- `archive::read`
pub one_read :
    (file links parents entries : List ℕ) →
    let rows : Rows = record { links = links; parents = parents; entries = entries } in
    let after = rows_read file rows in
    One (read_answer file rows)
    × One after.links
    × One after.parents
    × One after.entries
one_read file links parents entries = (one _, one _, one _, one _)
