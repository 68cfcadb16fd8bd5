-- `survey::fill` meets its contract. Assumes nothing.
use Rattle.survey.proofs.Surveyed.{closed-taken}
use Rattle.network.specs.Network.{net_of}
use Rattle.survey.proofs.Filled.{surveyed_walked}
use mathlib.Core.Path.{sym, ◌∙◌}
use Rattle.survey.proofs.fill.Goals as goal

pub know_all-requires : goal.know_all-requires
unfolding net_of
know_all-requires c =
    closed-taken _ _ (sym c.check_closed.ensures ∙ c.in_ok-check_closed.was)

pub returns : goal.returns
unfolding net_of
returns c =
    surveyed_walked _ _ _ c.check_closed.ensures c.in_ok-check_closed.was _ _ c.know_all.ensures
