-- Two outcomes that a promise allows are equal: one theorem a public function, in the words of its contract. Assumes nothing.
use Rattle.std.specs.Prelude.{ℕ, List, Result}
use Rattle.edition.specs.declared.Refusal.{Refusal}
use Rattle.edition.specs.declared.Search.{Search}
use Rattle.forward.specs.Answers.{ask_verdict, applies, ordinary_row, detour_row, row_for, used_part, number_said, place_said, handed}
use Rattle.forward.specs.declared.Applies.{Applies}
use Rattle.forward.specs.declared.Ask.{Ask}
use Rattle.network.specs.Network.{net_of}
use Rattle.edition.proofs.Only.{One, one}

-- `forward::check_ask`
pub one_check_ask : (n root : ℕ) (ask : Ask) (ordinary detour : ℕ) → One (ask_verdict n root ask ordinary detour)
one_check_ask n root ask ordinary detour = one _

-- `forward::fill`
pub one_fill :
    (links parents : List ℕ) (search : Search) (ask : Ask) (ordinary detour : List ℕ) →
    let g = net_of links parents search in
    let o = ordinary in
    let d = detour in
    One (applies g ask o d)
    × One (ordinary_row g ask o d)
    × One (detour_row g ask o d)
one_fill links parents search ask ordinary detour = (one _, one _, one _)

-- `forward::part`
pub one_part :
    (ordinary detour : List ℕ) (it : Result Applies Refusal) (ordinary-start detour-start : ℕ) →
    One (used_part it ordinary detour)
    × One (row_for it ordinary-start detour-start)
one_part ordinary detour it ordinary-start detour-start = (one _, one _)

-- `forward::number_of`
pub one_number_of : (it : Result Applies Refusal) → One (number_said it)
one_number_of it = one _

-- `forward::place_of`
pub one_place_of : (it : Result Applies Refusal) → One (place_said it)
one_place_of it = one _

-- `forward::forward`
pub one_forward :
    (links parents : List ℕ) (search : Search) (ask : Ask) (ordinary detour : List ℕ) (number place ordinary-start detour-start : ℕ) →
    let g = net_of links parents search in
    let it = applies g ask ordinary detour in
    One (handed g ask ordinary detour)
    × One (number_said it)
    × One (place_said it)
    × One (row_for it ordinary-start detour-start)
one_forward links parents search ask ordinary detour number place ordinary-start detour-start = (one _, one _, one _, one _)
