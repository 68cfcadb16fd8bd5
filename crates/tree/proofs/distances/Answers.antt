-- `tree::distances` meets its contract. Assumes nothing.
use Rattle.tree.proofs.Answering.{room-taken, distances_filled}
use Rattle.network.specs.Network.{net_of}
use Rattle.std.proofs.Common.{sym, ◌∙◌}
use Rattle.tree.proofs.distances.Goals as goal

pub fill_distances-requires : goal.fill_distances-requires
fill_distances-requires c =
    let z = room-taken _ _ (sym c.check_row.ensures ∙ c.in_ok-check_row.was) in z

pub returns : goal.returns
unfolding net_of
returns c =
    distances_filled _ _ _ c.check_row.ensures c.in_ok-check_row.was _ c.fill_distances.ensures
