-- `survey::distances` meets its contract. Assumes nothing.
use mathlib.Core.Path.{◌∙◌, sym}
use Rattle.network.specs.Network.{net_of}
use Rattle.survey.proofs.Surveyed.{closed-taken, survey_walked}
use Rattle.survey.proofs.distances.Goals as goal

pub walk-requires : goal.walk-requires
unfolding net_of
walk-requires c =
    closed-taken _ _ (sym c.check_closed.ensures ∙ c.in_ok-check_closed.was)

pub returns : goal.returns
unfolding net_of
returns c =
    survey_walked _ _ _ c.check_closed.ensures c.in_ok-check_closed.was _ _ c.walk.ensures
