-- `table::Side::step` meets its contract. Assumes nothing.
use Rattle.table.proofs.Sides.{node-there, up-there, rise_less, down_less, over_less, over-fits, stepped-on}
use Rattle.table.proofs.Side.step.Goals as goal

pub known_at-x-requires : goal.known_at-x-requires
known_at-x-requires c =
    node-there c.requires.1

pub known_at-p-requires : goal.known_at-p-requires
known_at-p-requires c =
    up-there c.requires.1 c.known_at-x.ensures

pub overflow_sub-x : goal.overflow_sub-x
overflow_sub-x c =
    rise_less c.requires.1 c.known_at-x.ensures c.known_at-p.ensures

pub overflow_sub-self : goal.overflow_sub-self
overflow_sub-self c =
    down_less c.requires.1 c.known_at-x.ensures c.known_at-p.ensures

pub overflow_sub-x-2 : goal.overflow_sub-x-2
overflow_sub-x-2 c =
    over_less c.requires.1 c.known_at-x.ensures c.known_at-p.ensures

pub overflow_add-self : goal.overflow_add-self
overflow_add-self c =
    record { fits = over-fits c.requires.1 c.known_at-x.ensures c.known_at-p.ensures }

pub returns : goal.returns
returns c =
    λ g h. stepped-on h c.known_at-x.ensures c.known_at-p.ensures c.wrapping_add_usize.ensures.value c.wrapping_add_u64.ensures.value c.max.ensures
