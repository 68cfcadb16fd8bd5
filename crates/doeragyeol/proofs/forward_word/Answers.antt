-- `doeragyeol::forward_word` meets its contract. Assumes nothing.
use Rattle.std.specs.Prelude.{Ok}
use Rattle.std.proofs.Common.{ap, ◌∙◌}
use Rattle.doeragyeol.proofs.Answering.{forward_short, forward_ordinary, forward_detour, forward_refused}
use Rattle.doeragyeol.proofs.forward_word.Goals as goal

pub returns-then-way-lt-WAY : goal.returns-then-way-lt-WAY
returns-then-way-lt-WAY c =
    forward_short _ _ _ _ _ c.if-way-lt-WAY.true _ c.short_word.ensures

pub returns-in-Ok-Ordinary : goal.returns-in-Ok-Ordinary
returns-in-Ok-Ordinary c =
    forward_ordinary _ _ _ _ _ c.if-way-lt-WAY.false _ c.fill.ensures.0 _ _ c.fill.ensures.1 c.fill.ensures.2 _
    (c.in-Ok-Ordinary.is ∙ ap Ok c.in-Ok-Ordinary.field-0-is) _ c.put.ensures

pub returns-in-Ok-Detour : goal.returns-in-Ok-Detour
returns-in-Ok-Detour c =
    forward_detour _ _ _ _ _ c.if-way-lt-WAY.false _ c.fill.ensures.0 _ _ c.fill.ensures.1 c.fill.ensures.2 _
    (c.in-Ok-Detour.is ∙ ap Ok c.in-Ok-Detour.field-0-is) _ c.put-in-Ok-Detour.ensures

pub returns-in-Err : goal.returns-in-Err
returns-in-Err c =
    forward_refused _ _ _ _ _ c.if-way-lt-WAY.false _ c.fill.ensures.0 _ _ c.fill.ensures.1 c.fill.ensures.2 _ c.in-Err.is _ c.refusal_word.ensures
