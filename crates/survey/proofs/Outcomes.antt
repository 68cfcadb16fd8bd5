-- Two outcomes that a promise allows are equal: one theorem a public function, in the words of its contract. Assumes nothing.
use Prim.Native.Nat.{ℕ}
use mathlib.Core.List.{List}
use Rattle.edition.specs.declared.Search.{Search}
use Rattle.network.specs.Network.{net_of}
use Rattle.survey.specs.Row.{nodes_in, known_at}
use Rattle.survey.specs.Survey.{survey_verdict, survey_row, surveyed_verdict, surveyed_row}
use Rattle.edition.proofs.Only.{One, one}

-- `survey::nodes_in`
pub one_nodes_in : (row : List ℕ) → One (nodes_in row)
one_nodes_in row = one _

-- `survey::known_at`
pub one_known_at : (row : List ℕ) (x : ℕ) → One (known_at row x)
one_known_at row x = one _

-- `survey::distances`
pub one_distances :
    (links parents : List ℕ) (search : Search) (row : List ℕ) →
    let g = net_of links parents search in
    One (survey_verdict g row)
    × One (survey_row g row)
one_distances links parents search row = (one _, one _)

-- `survey::fill`
pub one_fill :
    (links parents : List ℕ) (search : Search) (row : List ℕ) →
    let g = net_of links parents search in
    One (surveyed_verdict g row)
    × One (surveyed_row g row)
one_fill links parents search row = (one _, one _)
