-- `entries::entry_at` meets its contract. Assumes nothing.
use mathlib.Core.Path.{◌∙◌}
use Rattle.entries.proofs.Numbers.{entry-none}
use Rattle.entries.proofs.entry_at.Goals as goal

pub returns-then-row-x : goal.returns-then-row-x
returns-then-row-x c =
    c.no_entry.ensures ∙ entry-none _ _ c.if-row-x.true
