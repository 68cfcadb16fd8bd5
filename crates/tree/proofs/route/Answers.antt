-- `tree::route` meets its contract. Assumes nothing.
use Rattle.tree.proofs.Answering.{way-known, nodes-known, route_tight, fits-room, route_written}
use Rattle.rows.proofs.Refusing.{handed}
use Rattle.std.proofs.Common.{◌+◌, length, sym, ◌∙◌, arith}
use Rattle.tree.proofs.route.Goals as goal

pub to_root-c-requires : goal.to_root-c-requires
to_root-c-requires c =
    (way-known _ _ _ _ _ c.check_way.ensures c.in_ok-check_way.was).0

pub overflow_add-nodes : goal.overflow_add-nodes
overflow_add-nodes c =
    let w =
    way-known _ _ _ _ _ c.check_way.ensures c.in_ok-check_way.was in omega
    (arith, (nodes-known _ _ _ _ w.1 _ c.to_root-c.ensures).1)

pub write_route-requires : goal.write_route-requires
write_route-requires c =
    let w =
    way-known _ _ _ _ _ c.check_way.ensures c.in_ok-check_way.was in let n =
    nodes-known _ _ _ _ w.1 _ c.to_root-c.ensures in (
      omega (arith, n.1),
      omega (
        arith,
        fits-room (length c.args.row.now) (c.to_root-c.result.hops + 1) _ c.refuse_if.ensures
            c.in_ok-refuse_if.was,
      ),
    )

pub returns : goal.returns
returns c =
    let w =
    way-known _ _ _ _ _ c.check_way.ensures c.in_ok-check_way.was in route_written _ _ _ _
    (sym c.check_way.ensures ∙ c.in_ok-check_way.was) (nodes-known _ _ _ _ w.1 _ c.to_root-c.ensures).0 _
    c.refuse_if.ensures c.in_ok-refuse_if.was _ _ c.write_route.ensures

pub returns-in_err-refuse_if : goal.returns-in_err-refuse_if
returns-in_err-refuse_if c =
    let w = way-known _ _ _ _ _ c.check_way.ensures c.in_ok-check_way.was in
    route_tight _ _ _ _ (sym c.check_way.ensures ∙ c.in_ok-check_way.was) (nodes-known _ _ _ _ w.1 _ c.to_root-c.ensures).0 _ _ _
    c.refuse_if.ensures c.in_err-refuse_if.was (handed _ _ c.from_residual-in_err-refuse_if.ensures.1)
