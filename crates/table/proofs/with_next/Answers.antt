-- `table::with_next` meets its contract. Assumes nothing.
use Rattle.table.proofs.Carrying.{first-low, second_low, stays_idle, stays_own, stays_beside, crossed}
use Rattle.table.proofs.with_next.Goals as goal

pub returns-then-not-in_service : goal.returns-then-not-in_service
returns-then-not-in_service c =
    stays_idle _ _ _ c.requires.0 c.requires.1 c.link_at-l.ensures c.in_service.ensures c.requires.2 c.if-not-in_service.true

pub returns-then-parent_of-e : goal.returns-then-parent_of-e
returns-then-parent_of-e c =
    stays_own _ _ _ c.requires.0 c.requires.1 c.link_at-l.ensures c.in_service.ensures c.requires.2 c.parent_of.ensures c.if-parent_of-e.true

pub is_below-first-requires : goal.is_below-first-requires
is_below-first-requires c =
    (_, _, c.requires.0, first-low _ _ _ c.requires.0 c.requires.1 c.link_at-l.ensures)

pub is_below-requires : goal.is_below-requires
is_below-requires c =
    (_, _, c.requires.0, second_low _ _ _ c.requires.0 c.requires.1 c.link_at-l.ensures)

pub returns-then-first-is_below : goal.returns-then-first-is_below
returns-then-first-is_below c =
    let first = c.is_below-first.ensures _ _ c.requires.0 (first-low _ _ _ c.requires.0 c.requires.1 c.link_at-l.ensures) in
    let second = c.is_below.ensures _ _ c.requires.0 (second_low _ _ _ c.requires.0 c.requires.1 c.link_at-l.ensures) in
    stays_beside _ _ _ c.requires.0 c.requires.1 c.link_at-l.ensures c.in_service.ensures c.requires.2 first second c.if-first-is_below.true

pub with_crossed-requires : goal.with_crossed-requires
with_crossed-requires c =
    let first = c.is_below-first.ensures _ _ c.requires.0 (first-low _ _ _ c.requires.0 c.requires.1 c.link_at-l.ensures) in
    let second = c.is_below.ensures _ _ c.requires.0 (second_low _ _ _ c.requires.0 c.requires.1 c.link_at-l.ensures) in (
      _,
      crossed _ _ _ c.requires.0 c.requires.1 c.link_at-l.ensures c.in_service.ensures c.args.net.short
          c.if-not-in_service.false c.parent_of.ensures c.if-parent_of-e.false first second c.if-first-is_below.false,
      c.requires.2,
    )

pub returns : goal.returns
returns c =
    let first = c.is_below-first.ensures _ _ c.requires.0 (first-low _ _ _ c.requires.0 c.requires.1 c.link_at-l.ensures) in
    let second = c.is_below.ensures _ _ c.requires.0 (second_low _ _ _ c.requires.0 c.requires.1 c.link_at-l.ensures) in
    c.with_crossed.ensures _
    (crossed _ _ _ c.requires.0 c.requires.1 c.link_at-l.ensures c.in_service.ensures
    c.args.net.short
    c.if-not-in_service.false c.parent_of.ensures c.if-parent_of-e.false first second c.if-first-is_below.false) c.requires.2
