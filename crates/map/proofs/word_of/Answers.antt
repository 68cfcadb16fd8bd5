-- `map::word_of` meets its contract. Assumes nothing.
use mathlib.Core.Path.{refl, sym, ◌∙◌}
use native.Mathlib.Omega.{arith}
use Rattle.rows.specs.Count.{sum_to}
use Rattle.map.specs.Work.{packed}
use Rattle.map.proofs.Packing.{bit_room, bit_more, bit_less}
use Rattle.map.proofs.word_of.Goals as goal
use Rattle.map.proofs.word_of.Goals.{then-is_open, else-is_open}

pub loop-j-init : goal.loop-j-init
unfolding packed sum_to
loop-j-init c =
    refl

pub overflow_add-word : goal.overflow_add-word
overflow_add-word c =
    omega (arith, bit_room _ _ _ c.loop-j.invariant c.loop-j-test.true)

pub loop-j-preserved : goal.loop-j-preserved
loop-j-preserved c =
    elim c.if-is_open.branch [
      | then-is_open w ↦ w.word-is ∙ bit_more _ _ _ c.loop-j.invariant c.loop-j-test.true (sym w.if-is_open.true ∙ c.is_open.ensures)
      | else-is_open w ↦ w.word-is ∙ bit_less _ _ _ c.loop-j.invariant c.loop-j-test.true (sym w.if-is_open.false ∙ c.is_open.ensures)
    ]
