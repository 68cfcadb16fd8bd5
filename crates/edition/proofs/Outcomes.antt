-- Two outcomes that a promise allows are equal: one theorem a public function, in the words of its contract. Assumes nothing.
use Prim.Native.Nat.{ℕ}
use Rattle.edition.specs.Entries.{no_swap, blank, swap_by}
use Rattle.edition.specs.Limits.{no_link, no_node, memory_limits}
use Rattle.edition.specs.Refusals.{number_of}
use Rattle.edition.specs.Stored.{edition_limits, aim_of, by_number}
use Rattle.edition.specs.declared.Aim.{Aim}
use Rattle.edition.specs.declared.Entry.{Entry}
use Rattle.edition.specs.declared.Measure.{Measure}
use Rattle.edition.specs.declared.Search.{Search}
use Rattle.edition.specs.declared.Why.{Why}
use Rattle.edition.proofs.Only.{One, one}

-- `edition::Search::aim`
pub one_search_aim : (self : Search) → One (aim_of self)
one_search_aim self = one _

-- `edition::Aim::by_number`
pub one_aim_by_number : (self : Aim) → One (by_number self)
one_aim_by_number self = one _

-- `edition::Edition::limits`
pub one_edition_limits : One (edition_limits)
one_edition_limits = one _

-- `edition::Edition::no_link`
pub one_edition_no_link : One (no_link)
one_edition_no_link = one _

-- `edition::Edition::no_node`
pub one_edition_no_node : One (no_node)
one_edition_no_node = one _

-- `edition::Edition::no_swap`
pub one_edition_no_swap : One (no_swap)
one_edition_no_swap = one _

-- `edition::Edition::blank_entry`
pub one_edition_blank_entry : (state : ℕ) → One (blank state)
one_edition_blank_entry state = one _

-- `edition::Edition::root_entry`
pub one_edition_root_entry : One (blank 0)
one_edition_root_entry = one _

-- `edition::Memory::limits`
pub one_memory_limits : One (memory_limits)
one_memory_limits = one _

-- `edition::swap_by`
pub one_swap_by : (entry : Entry) (measure : Measure) → One (swap_by entry measure)
one_swap_by entry measure = one _

-- `edition::number`
pub one_number : (why : Why) → One (number_of why)
one_number why = one _
