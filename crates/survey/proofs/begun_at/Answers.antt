-- `survey::begun_at` meets its contract. Assumes nothing.
use native.Mathlib.Omega.{arith}
use Rattle.survey.proofs.Beginning.{begun-root, begun_off, above_in, near_fits}
use Rattle.survey.proofs.begun_at.Goals as goal

pub returns-then-v-net : goal.returns-then-v-net
returns-then-v-net c =
    begun-root _ _ _ _ _ c.requires c.if-v-net.true

pub known_at-above-requires : goal.known_at-above-requires
known_at-above-requires c =
    above_in _ _ _ _ _ (c.requires) c.if-v-net.false _ c.parent_of-e.ensures _ c.link_at-l.ensures _ c.other_end-p.ensures

pub overflow_add-d : goal.overflow_add-d
overflow_add-d c =
    omega (
      arith,
      near_fits _ _ _ _ _ (c.requires) c.if-v-net.false _ c.parent_of-e.ensures _ c.link_at-l.ensures _ c.other_end-p.ensures _
          c.known_at-above.ensures c.args.net.short,
    )

pub returns : goal.returns
returns c =
    begun_off _ _ _ _ _ (c.requires) c.if-v-net.false _ c.parent_of-e.ensures _ c.link_at-l.ensures _ c.other_end-p.ensures _ c.known_at-above.ensures
