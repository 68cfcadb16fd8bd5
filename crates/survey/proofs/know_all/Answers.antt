-- `survey::know_all` meets its contract. Assumes nothing.
use Rattle.network.specs.Network.{net_of}
use Rattle.tree.specs.Tree.{tree_of}
use Rattle.survey.proofs.Fronts.{front-size, order_front}
use Rattle.survey.proofs.Routed.{routed_none, routed_some}
use Rattle.survey.proofs.know_all.Goals as goal

pub returns-in_default : goal.returns-in_default
returns-in_default c =
    routed_some _ _ _ _ _ c.in_order-lost.ensures.0 c.in_default.is _ c.refused_at.ensures _ _

pub returns : goal.returns
returns c =
    (routed_none _ _ _ _ c.in_order-lost.ensures.0 c.in-None.is, c.write_known.ensures)

pub write_known-requires : goal.write_known-requires
unfolding tree_of net_of
write_known-requires c =
    let order = c.in_order-lost.ensures.1 c.in-None.is in
    (order_front _ _ order, front-size _ _ order, c.requires.1)
