-- `map::lowest_of` meets its contract. Assumes nothing.
use mathlib.Core.Path.{refl, ◌∙◌}
use borrow.Author.Tests.{eq-eqb, ne_eqb}
use Rattle.map.specs.Work.{some_in}
use Rattle.map.proofs.Wording.{lowest_here, lowest_nowhere}
use Rattle.rows.proofs.Seeking.{seek_start, seek_past, seek_here, seek_done}
use Rattle.map.proofs.lowest_of.Goals as goal

pub loop-i-init : goal.loop-i-init
loop-i-init c =
    seek_start _ _

pub returns-then-word-ne0 : goal.returns-then-word-ne0
unfolding some_in
returns-then-word-ne0 c =
    lowest_here _ _
    (seek_here _ _ _ c.loop-i.invariant c.loop-i-test.true _ refl (rw (← c.wide_at-word.ensures, ne_eqb _ _ c.if-word-ne0.true)))
    _ c.wide_at-word.ensures

pub loop-i-preserved : goal.loop-i-preserved
unfolding some_in
loop-i-preserved c =
    seek_past _ _ _ c.loop-i.invariant c.loop-i-test.true _ refl (rw (← c.wide_at-word.ensures, eq-eqb _ _ c.if-word-ne0.false))

pub returns : goal.returns
returns c =
    c.no_node.ensures ∙ lowest_nowhere _ (seek_done _ _ _ _ c.loop-i.invariant c.loop-i-test.false)
