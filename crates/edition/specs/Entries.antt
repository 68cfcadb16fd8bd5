-- An entry: its states, one without links, costs and marks, its swap link under a measure. Assumes nothing.
use Rattle.std.specs.Prelude.{ℕ}
use Rattle.edition.specs.declared.Swap.{Swap}
use Rattle.edition.specs.declared.Entry.{Entry}
use Rattle.edition.specs.declared.Measure.{Measure}
use Rattle.edition.specs.declared.Measure.TheVariants.{Sum, Incr, Max}
use Rattle.edition.specs.Limits.{no_link}

-- State 0: the root.
abbrev pub root_state : ℕ
root_state = 0

-- State 1: there is a swap link.
abbrev pub swap_state : ℕ
swap_state = 1

-- State 2: links cross, but none within the depth.
abbrev pub none_state : ℕ
none_state = 2

-- State 3: bridge, nothing crosses.
abbrev pub bridge_state : ℕ
bridge_state = 3

-- The mark of a link's first end.
abbrev pub first_end : ℕ
first_end = 0

-- The mark of its second end.
abbrev pub second_end : ℕ
second_end = 1

-- No swap link: the link is 65,535, the cost 0 and the mark 0.
abbrev pub no_swap : Swap
no_swap = record { link = no_link; cost = 0; lower = 0 }

-- An entry that has no links, costs and marks.
abbrev pub blank : ℕ → Entry
blank state = record { state = state; sum = no_swap; incr = no_swap; max = no_swap }

-- The swap link of an entry under a measure.
abbrev pub swap_by : Entry → Measure → Swap
swap_by e Sum = e.sum
swap_by e Incr = e.incr
swap_by e Max = e.max
