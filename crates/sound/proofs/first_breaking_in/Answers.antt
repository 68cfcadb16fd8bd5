-- `sound::first_breaking_in` meets its contract. Assumes nothing.
use mathlib.Core.Path.{◌∙◌, ap}
use native.Mathlib.Omega.{arith}
use Rattle.rows.proofs.Seeking.{seek_start, seek_past, seek_here}
use Rattle.sound.specs.Work.{breaks_in}
use Rattle.sound.proofs.first_breaking_in.Goals as goal

pub loop-e-init : goal.loop-e-init
loop-e-init c =
    seek_start _ _

pub returns-then-breaks_in : goal.returns-then-breaks_in
returns-then-breaks_in c =
    seek_here _ _ _ c.loop-e.invariant (omega arith) _ (c.breaks_in.ensures ∙ ap (breaks_in _) c.link_at.ensures) c.if-breaks_in.true

pub loop-e-preserved : goal.loop-e-preserved
loop-e-preserved c =
    seek_past _ _ _ c.loop-e.invariant (omega arith) _ (c.breaks_in.ensures ∙ ap (breaks_in _) c.link_at.ensures) c.if-breaks_in.false
