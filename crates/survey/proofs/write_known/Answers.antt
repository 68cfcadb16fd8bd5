-- `survey::write_known` meets its contract. Assumes nothing.
use Rattle.network.specs.Network.{net_of}
use Rattle.tree.specs.Tree.{tree_of}
use Rattle.survey.proofs.Filled.{basis_in, told_row}
use Rattle.survey.proofs.write_known.Goals as goal

pub walk_up-requires : goal.walk_up-requires
unfolding tree_of net_of
walk_up-requires c =
    let basis = basis_in _ _ c.args.net.search _ c.args.net.short c.requires.0 c.requires.1 in
    (_, _, basis, c.walk_down.ensures)

pub walk_beside-requires : goal.walk_beside-requires
unfolding tree_of net_of
walk_beside-requires c =
    let basis = basis_in _ _ c.args.net.search _ c.args.net.short c.requires.0 c.requires.1 in
    (_, _, basis, c.walk_up.ensures _ _ basis c.walk_down.ensures)

pub walk_turns-requires : goal.walk_turns-requires
unfolding tree_of net_of
walk_turns-requires c =
    let basis = basis_in _ _ c.args.net.search _ c.args.net.short c.requires.0 c.requires.1 in
    let summed = c.walk_up.ensures _ _ basis c.walk_down.ensures in
    (_, _, basis, c.walk_beside.ensures _ _ basis summed)

pub returns : goal.returns
unfolding tree_of net_of
returns c =
    let basis = basis_in _ _ c.args.net.search _ c.args.net.short c.requires.0 c.requires.1 in
    let summed = c.walk_up.ensures _ _ basis c.walk_down.ensures in
    let sided = c.walk_beside.ensures _ _ basis summed in
    told_row _ _ _ _ (c.walk_turns.ensures _ _ basis sided)
