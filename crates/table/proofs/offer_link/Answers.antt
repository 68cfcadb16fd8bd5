-- `table::offer_link` meets its contract. Assumes nothing.
use Rattle.table.proofs.Skipping.{skip_idle, skip_first, skip_second, skip_ranked, first-ranked, second_ranked, first_starts, second_starts, k_fits, climbing}
use Rattle.std.proofs.Common.{arith}
use Rattle.table.proofs.offer_link.Goals as goal

pub returns-then-not-in_service : goal.returns-then-not-in_service
returns-then-not-in_service c =
    λ asked h. skip_idle _ _ _ h.surveyed c.requires.2 c.link_at-l.ensures asked _ c.in_service.ensures c.if-not-in_service.true

pub returns-then-parent_of-e : goal.returns-then-parent_of-e
returns-then-parent_of-e c =
    λ asked h. skip_first _ _ _ h.surveyed c.requires.2 c.link_at-l.ensures asked _ c.parent_of.ensures c.if-parent_of-e.true

pub returns-then-parent_of-e-2 : goal.returns-then-parent_of-e-2
returns-then-parent_of-e-2 c =
    λ asked h. skip_second _ _ _ h.surveyed c.requires.2 c.link_at-l.ensures asked _ c.parent_of-2.ensures c.if-parent_of-e-2.true

pub bounds-ranks-p : goal.bounds-ranks-p
bounds-ranks-p c =
    first-ranked _ _ _ c.requires.1.surveyed c.requires.2 c.link_at-l.ensures _ c.args.entries.now c.requires.1.ranked

pub bounds-ranks-q : goal.bounds-ranks-q
bounds-ranks-q c =
    second_ranked _ _ _ c.requires.1.surveyed c.requires.2 c.link_at-l.ensures _ c.args.entries.now c.requires.1.ranked

pub returns-then-ranks-p : goal.returns-then-ranks-p
returns-then-ranks-p c =
    λ asked h. skip_ranked _ _ _ h.surveyed c.requires.2 c.link_at-l.ensures asked _ h.ranked c.if-ranks-p.true

pub begin_side-a-requires : goal.begin_side-a-requires
begin_side-a-requires c =
    (_, first_starts _ _ _ c.requires.1.surveyed c.requires.2 c.link_at-l.ensures)

pub begin_side-b-requires : goal.begin_side-b-requires
begin_side-b-requires c =
    (_, second_starts _ _ _ c.requires.1.surveyed c.requires.2 c.link_at-l.ensures)

pub overflow_add-k : goal.overflow_add-k
overflow_add-k c =
    let one = c.begin_side-a.ensures _ (first_starts _ _ _ c.requires.1.surveyed c.requires.2 c.link_at-l.ensures) in
    let two = c.begin_side-b.ensures _ (second_starts _ _ _ c.requires.1.surveyed c.requires.2 c.link_at-l.ensures) in
    record {
      fits =
          omega (
            arith,
            k_fits _ _ _ c.requires.1.surveyed c.requires.2 c.link_at-l.ensures one two
                c.args.net.short,
          );
    }

pub overflow_add-k-2 : goal.overflow_add-k-2
overflow_add-k-2 c =
    let one = c.begin_side-a.ensures _ (first_starts _ _ _ c.requires.1.surveyed c.requires.2 c.link_at-l.ensures) in
    let two = c.begin_side-b.ensures _ (second_starts _ _ _ c.requires.1.surveyed c.requires.2 c.link_at-l.ensures) in
    record { fits = k_fits _ _ _ c.requires.1.surveyed c.requires.2 c.link_at-l.ensures one two c.args.net.short }

pub climb_link-requires : goal.climb_link-requires
climb_link-requires c =
    let one = c.begin_side-a.ensures _ (first_starts _ _ _ c.requires.1.surveyed c.requires.2 c.link_at-l.ensures) in
    let two = c.begin_side-b.ensures _ (second_starts _ _ _ c.requires.1.surveyed c.requires.2 c.link_at-l.ensures) in (
      _,
      c.requires.0,
      climbing _ _ _ c.requires.1.surveyed c.requires.2 c.link_at-l.ensures one two c.args.net.short
          c.in_service.ensures c.if-not-in_service.false c.parent_of.ensures c.if-parent_of-e.false c.parent_of-2.ensures
          c.if-parent_of-e-2.false c.requires.1,
    )

pub returns : goal.returns
returns c =
    let pre =
    c.requires
    in
    λ asked h.
    let sv = h.surveyed in
    let one = c.begin_side-a.ensures _ (first_starts _ _ _ sv pre.2 c.link_at-l.ensures) in
    let two = c.begin_side-b.ensures _ (second_starts _ _ _ sv pre.2 c.link_at-l.ensures) in
    c.climb_link.ensures _ asked
    (climbing _ _ _ sv pre.2 c.link_at-l.ensures one two c.args.net.short
    c.in_service.ensures c.if-not-in_service.false c.parent_of.ensures c.if-parent_of-e.false c.parent_of-2.ensures
    c.if-parent_of-e-2.false h)
