-- What one more link does to an entry. No public promise cites this page: laws join it to the entry. Assumes nothing.
use Rattle.std.specs.Prelude.{ℕ, Bool, true, false, cond, not, ◌&&◌, ◌||◌, ◌==◌, nat_eq, nat_le, nat_lt}
use Rattle.edition.specs.declared.Swap.{Swap}
use Rattle.edition.specs.declared.Entry.{Entry}
use Rattle.edition.specs.Entries.{swap_state, none_state}
use Rattle.edition.specs.Limits.{nearer_first}
use Rattle.network.specs.Network.{Net}
use Rattle.table.specs.declared.Offer.{Offer}
use Rattle.table.specs.declared.Costs.{Costs}
use Rattle.table.specs.declared.Standing.{Standing}

-- the network with its first k links
unfoldable pub first_links : Net → ℕ → Net
first_links g k = record { nodes = g.nodes; links = k; link = g.link; parent = g.parent; search = g.search }

-- a candidate as a swap link
abbrev pub as_swap : Offer → Swap
as_swap o = record { link = o.link; cost = o.cost; lower = o.lower }

-- the better of a swap link, where there is one, and a later candidate: the candidate where it costs less, or less by incr than tied,
-- which is what the swap link costs by incr where the costs are equal and the rule asks for it, and 0 elsewhere
unfoldable pub kept : Bool → ℕ → Swap → Offer → Swap
kept had tied old new = cond (had && not (nat_lt new.cost old.cost || nat_lt new.incr tied)) old (as_swap new)

-- what a swap link costs by incr where that decides between it and a candidate of this cost: the rule asks for it, and the costs are
-- equal; 0 elsewhere. f says it of a link.
unfoldable pub tied_by : ℕ → (ℕ → ℕ) → Swap → ℕ → ℕ
tied_by rule f s cost = let own = f s.link in cond (rule == nearer_first && cost == s.cost) own 0

-- so under sum and under max
unfoldable pub standing_by : ℕ → (ℕ → ℕ) → Entry → Costs → Standing
standing_by rule f old c = record { sum = tied_by rule f old.sum c.sum; max = tied_by rule f old.max c.max }

-- an entry with one more link e that crosses, within the depth or not; lower is the mark of its lower end
unfoldable pub offered : Entry → Standing → Bool → ℕ → ℕ → Costs → Entry
offered old standing true e lower c =
    let had = nat_eq old.state swap_state in
    record {
      state = swap_state;
      sum = kept had standing.sum old.sum (record { link = e; cost = c.sum; incr = c.incr; lower = lower });
      incr = kept had 0 old.incr (record { link = e; cost = c.incr; incr = c.incr; lower = lower });
      max = kept had standing.max old.max (record { link = e; cost = c.max; incr = c.incr; lower = lower });
    }
offered old standing false e lower c =
    record {
      state = cond (old.state == swap_state) swap_state none_state;
      sum = old.sum;
      incr = old.incr;
      max = old.max;
    }

-- an entry has a swap link already, and no cost is lower than its own
unfoldable pub no_better : Entry → Costs → Bool
no_better old c =
    (old.state == swap_state) && not (nat_lt c.sum old.sum.cost) && not (nat_lt c.incr old.incr.cost) && nat_le old.max.cost c.max

-- a swap link stays before a candidate of no lower cost: the costs differ, or it is the swap link under incr, than which nothing costs
-- less by incr
unfoldable pub settled : Swap → Swap → ℕ → Bool
settled s least cost = not (s.cost == cost) || s.link == least.link

-- so under sum and under max
unfoldable pub all_settled : Entry → Costs → Bool
all_settled old c = settled old.sum old.incr c.sum && settled old.max old.incr c.max

-- one more link leaves the entry: no cost is lower, and where the rule asks for it every swap link stays before one of equal cost
unfoldable pub unbettered : ℕ → Entry → Costs → Bool
unbettered rule old c = no_better old c && (not (rule == nearer_first) || all_settled old c)
