-- `table::survey_table` meets its contract. Assumes nothing.
use Rattle.rows.proofs.Refusing.{handed_on}
use Rattle.network.specs.Network.{net_of}
use Rattle.table.proofs.Whole.{work_refused, work_decided}
use Rattle.table.proofs.survey_table.Goals as goal

pub returns-in_err-survey_network : goal.returns-in_err-survey_network
unfolding net_of
returns-in_err-survey_network c =
    rw (handed_on _ _ _ c.from_residual.ensures.1 c.in_err-survey_network.was)
    (work_refused _ _ _ _ _ c.survey_network.ensures.0 c.in_err-survey_network.was, c.survey_network.ensures.1)

pub returns : goal.returns
unfolding net_of
returns c = (
  work_decided _ _ _ _ c.survey_network.ensures.0 c.in_ok-survey_network.was _ c.entries_in.ensures _ c.refuse_if.ensures,
  c.survey_network.ensures.1,
)
