-- `map::unprotected_map` meets its contract. Assumes nothing.
use Rattle.network.specs.Network.{net_of}
use Rattle.rows.proofs.Refusing.{handed}
use Rattle.map.proofs.Whole.{map_is, map-not}
use Rattle.map.proofs.unprotected_map.Goals as goal

pub returns : goal.returns
unfolding net_of
returns c =
    map_is _ _ _ c.table.ensures.0 c.in_ok-table.was _ c.table.ensures.1 _ c.map_of.ensures.0 _ c.map_of.ensures.1

pub returns-in_err-table : goal.returns-in_err-table
returns-in_err-table c =
    rw (handed _ _ c.from_residual.ensures.1) (map-not _ _ _ c.table.ensures.0 _ c.in_err-table.was)
