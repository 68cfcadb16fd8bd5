-- `change::breaks_short` meets its contract. Assumes nothing.
use Rattle.change.proofs.Checking.{withdrawn-fits, first-known, second_known, breaks-is}
use Rattle.change.proofs.breaks_short.Goals as goal

pub returns-then-change-ne-SERVED : goal.returns-then-change-ne-SERVED
returns-then-change-ne-SERVED c =
    λ parents search s. withdrawn-fits _ parents search _ c.if-change-ne-SERVED.true

pub known_at-p-requires : goal.known_at-p-requires
known_at-p-requires c =
    first-known _ _ _ _ _ c.requires.2 _ c.link_at-l.ensures

pub known_at-q-requires : goal.known_at-q-requires
known_at-q-requires c =
    second_known _ _ _ _ _ c.requires.2 _ c.link_at-l.ensures

pub returns : goal.returns
returns c =
    λ parents search s.
    breaks-is _ _ _ _ _ s _ c.link_at-l.ensures c.if-change-ne-SERVED.false _ c.known_at-p.ensures _ c.known_at-q.ensures _ c.keeps_short.ensures
