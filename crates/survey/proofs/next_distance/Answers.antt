-- `survey::next_distance` meets its contract. Assumes nothing.
use native.Mathlib.Omega.{arith}
use Rattle.survey.proofs.Nexts.{next_dist-root, next_dist-small, next_dist}
use Rattle.survey.proofs.next_distance.Goals as goal

pub returns-then-v-net : goal.returns-then-v-net
returns-then-v-net c =
    next_dist-root _ _ _ _ _ c.requires.0 c.if-v-net.true

pub overflow_add-result : goal.overflow_add-result
overflow_add-result c =
    omega (arith, next_dist-small _ _ _ _ _ c.requires.0 c.if-v-net.false _ c.up-p.ensures c.args.net.short c.requires.1)

pub returns : goal.returns
returns c =
    next_dist _ _ _ _ _ c.requires.0 c.if-v-net.false _ c.up-p.ensures _ c.rise-more.ensures
