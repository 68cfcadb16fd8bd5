-- `table::incr_of` meets its contract. Assumes nothing.
use Rattle.std.proofs.Common.{◌∙◌, arith}
use Rattle.table.proofs.Nearness.{first_starts, second_starts, own-fits, nearer_is}
use Rattle.table.proofs.incr_of.Goals as goal

pub overflow_mul-at : goal.overflow_mul-at
overflow_mul-at c =
    omega (arith, own-fits c.requires.1 c.requires.2 c.args.b c.link_at.ensures c.known_at-at.ensures)

pub returns : goal.returns
returns c =
    λ g st rd.
    let one = first_starts st rd c.args.b c.link_at.ensures in
    let two = second_starts st rd c.args.b c.link_at.ensures in
    c.saturating_sub.ensures ∙
    nearer_is st rd c.args.b c.link_at.ensures c.known_at-at.ensures (c.way_through-k.ensures g one two)
