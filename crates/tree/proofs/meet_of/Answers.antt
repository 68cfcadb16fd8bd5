-- `tree::meet_of` meets its contract. Assumes nothing.
use Rattle.tree.proofs.Answering.{ways_known, met}
use Rattle.std.proofs.Common.{sym, ◌∙◌}
use Rattle.tree.proofs.meet_of.Goals as goal

pub climb_to_meet-met-requires : goal.climb_to_meet-met-requires
climb_to_meet-met-requires c =
    ways_known _ _ _ _ _ _ c.check_ways.ensures c.in_ok-check_ways.was

pub returns : goal.returns
returns c =
    met _ _ _ (sym c.check_ways.ensures ∙ c.in_ok-check_ways.was) _ c.climb_to_meet-met.ensures.0
