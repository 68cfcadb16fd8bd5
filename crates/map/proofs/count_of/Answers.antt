-- `map::count_of` meets its contract. Assumes nothing.
use native.Mathlib.Omega.{arith}
use Rattle.map.proofs.Wording.{ones_room}
use Rattle.map.proofs.count_of.Goals as goal

pub overflow_add-total : goal.overflow_add-total
overflow_add-total c =
    omega (arith, ones_room _ (λ i. omega (arith, c.type_inv.words i)) _ c.loop-i-test.true _ c.loop-i.invariant)
