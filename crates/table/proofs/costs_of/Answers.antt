-- `table::costs_of` meets its contract. Assumes nothing.
use Rattle.table.proofs.Pricing.{x_there, product_fits, whole_fits, turn_less, own_less, rest_less, own-fits, max-fits, priced}
use Rattle.table.proofs.costs_of.Goals as goal

pub known_at-x-requires : goal.known_at-x-requires
known_at-x-requires c =
    x_there c.requires.2

pub overflow_mul-result : goal.overflow_mul-result
overflow_mul-result c =
    record { fits = product_fits c.requires.2 c.known_at-x.ensures }

pub overflow_add-result : goal.overflow_add-result
overflow_add-result c =
    record { fits = whole_fits c.requires.2 c.known_at-x.ensures }

pub overflow_sub-result : goal.overflow_sub-result
overflow_sub-result c =
    turn_less c.requires.2 c.known_at-x.ensures

pub overflow_mul-result-2 : goal.overflow_mul-result-2
overflow_mul-result-2 c =
    record { fits = own-fits c.requires.2 c.known_at-x.ensures }

pub overflow_sub-result-2 : goal.overflow_sub-result-2
overflow_sub-result-2 c =
    own_less c.requires.2 c.known_at-x.ensures

pub overflow_sub-result-3 : goal.overflow_sub-result-3
overflow_sub-result-3 c =
    rest_less c.requires.2

pub overflow_add-result-2 : goal.overflow_add-result-2
overflow_add-result-2 c =
    record { fits = max-fits c.requires.2 }

pub returns : goal.returns
returns c =
    λ g e h. priced h c.known_at-x.ensures
