-- `table::check_table` meets its contract. Assumes nothing.
use Rattle.network.specs.Network.{net_of}
use Rattle.sound.proofs.Handing.{handed-first}
use Rattle.table.proofs.Whole.{table_judged}
use Rattle.table.specs.Table.{table_verdict}
use Rattle.table.proofs.check_table.Goals as goal

pub returns-in_default : goal.returns-in_default
unfolding table_verdict
returns-in_default c =
    handed-first _ _ c.check_network-said.ensures _ c.in_default.is _ _ c.handed_up.ensures

pub returns : goal.returns
unfolding net_of
returns c =
    table_judged _ _ _ _ c.check_network-said.ensures c.in-Ok.is _ c.entries_in.ensures _ c.refuse_if.ensures
