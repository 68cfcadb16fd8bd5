-- Two outcomes that a promise allows are equal: one theorem a public function, in the words of its contract. Assumes nothing.
use Rattle.std.specs.Prelude.{ℕ, Bool, get_or, take, List, Option}
use Rattle.edition.specs.declared.Why.{Why}
use Rattle.rows.specs.First.{first_to, refuse_if, refused_at}
use Rattle.edition.proofs.Only.{One, one}

-- `rows::at`
pub one_at : (row : List ℕ) (i other : ℕ) → One (get_or row i other)
one_at row i other = one _

-- `rows::wide_at`
pub one_wide_at : (row : List ℕ) (i : ℕ) → One (get_or row i 0)
one_wide_at row i = one _

-- `rows::first`
pub one_first : (row : List ℕ) (n : ℕ) → One (take n row)
one_first row n = one _

-- `rows::refuse_if`
pub one_refuse_if : (bad : Bool) (why : Why) (place : ℕ) → One (refuse_if bad why place)
one_refuse_if bad why place = one _

-- `rows::lowest`
pub one_lowest : (n : ℕ) (p : ℕ → Bool) → One (first_to p n)
one_lowest n p = one _

-- `rows::refused_at`
pub one_refused_at : (why : Why) (found : Option ℕ) → One (refused_at why found)
one_refused_at why found = one _
