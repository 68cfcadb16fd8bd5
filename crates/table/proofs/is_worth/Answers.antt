-- `table::is_worth` meets its contract. Assumes nothing.
use Rattle.table.specs.Prefix.{all_settled}
use Rattle.edition.specs.declared.Entry.{Entry}
use Rattle.std.proofs.Common.{sym, ap, ◌∙◌, arith}
use Rattle.table.proofs.Offering.{has-rank, has-entry, node-few, is_asked_lem, not_asked, worth_none, worth_lower, worth_not, worth_tied}
use Rattle.table.proofs.is_worth.Goals as goal

pub offset_bounds-ranks-x : goal.offset_bounds-ranks-x
offset_bounds-ranks-x c =
    omega (arith, node-few c.requires.6)

pub bounds-ranks-x : goal.bounds-ranks-x
bounds-ranks-x c =
    has-rank c.requires.6

pub overflow_cast-x : goal.overflow_cast-x
overflow_cast-x c =
    omega (arith, node-few c.requires.6)

pub overflow_add-x : goal.overflow_add-x
overflow_add-x c =
    omega (arith, node-few c.requires.6)

pub returns-then-ranks-x : goal.returns-then-ranks-x
returns-then-ranks-x c =
    λ g links asked survey e k h p. worth_none h (not_asked h c.if-ranks-x.true)

pub entry_there-requires : goal.entry_there-requires
entry_there-requires c =
    has-entry c.requires.6

pub returns-then-not-no_better : goal.returns-then-not-no_better
returns-then-not-no_better c =
    λ g links asked survey e k h p.
    worth_lower h (is_asked_lem h c.if-ranks-x.false) c.entry_there.ensures p (sym c.no_better.ensures ∙ c.if-not-no_better.true)

pub returns-then-search-ne-NEARER : goal.returns-then-search-ne-NEARER
returns-then-search-ne-NEARER c =
    λ g links asked survey e k h p.
    worth_not h (is_asked_lem h c.if-ranks-x.false) c.entry_there.ensures p
    (sym c.no_better.ensures ∙ c.if-not-no_better.false) c.if-search-ne-NEARER.true

pub entry_there-requires-2 : goal.entry_there-requires-2
entry_there-requires-2 c =
    has-entry c.requires.6

pub returns : goal.returns
returns c =
    λ g links asked survey e k h p.
    worth_tied h (is_asked_lem h c.if-ranks-x.false) c.entry_there.ensures p (sym c.no_better.ensures ∙ c.if-not-no_better.false)
    (c.all_settled.ensures ∙ ap (λ (o : Entry). all_settled o c.args.c) (c.entry_there-2.ensures ∙ sym c.entry_there.ensures))
