-- `survey::begin` meets its contract. Assumes nothing.
use Rattle.survey.proofs.Begun.{begun}
use Rattle.survey.proofs.begin.Goals as goal

pub returns : goal.returns
returns c =
    begun _ c.args.order.now _
