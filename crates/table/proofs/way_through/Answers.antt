-- `table::way_through` meets its contract. Assumes nothing.
use Rattle.table.proofs.Carrying.{way-is, way-fits}
use Rattle.std.proofs.Common.{arith}
use Rattle.table.proofs.way_through.Goals as goal

pub overflow_add-result : goal.overflow_add-result
overflow_add-result c =
    record { fits = omega (arith, way-fits c.args.l c.requires.1 c.requires.2 c.known_at-p.ensures c.known_at-q.ensures c.requires.3) }

pub overflow_add-result-2 : goal.overflow_add-result-2
overflow_add-result-2 c =
    record { fits = way-fits c.args.l c.requires.1 c.requires.2 c.known_at-p.ensures c.known_at-q.ensures c.requires.3 }

pub returns : goal.returns
returns c =
    λ g p q. way-is _ p q c.known_at-p.ensures c.known_at-q.ensures
