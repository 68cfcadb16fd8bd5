-- `survey::walk_turns` meets its contract. Assumes nothing.
use Rattle.survey.proofs.Turning.{turn-start, turn_end, turn-node, turn_up, turn-fits, turn_more}
use Rattle.survey.proofs.walk_turns.Goals as goal

pub loop-i-init : goal.loop-i-init
loop-i-init c =
    λ t before b h. turn-start _ _ b _ _ h

pub put_turn-requires : goal.put_turn-requires
put_turn-requires c = (
  turn-node _ _ c.requires.2 _ _ _ (c.loop-i.invariant c.requires.0 c.requires.1 c.requires.2 c.requires.3) c.loop-i-test.true,
  turn_up _ _ c.requires.2 _ _ _ (c.loop-i.invariant c.requires.0 c.requires.1 c.requires.2 c.requires.3) c.loop-i-test.true,
  turn-fits _ _ c.requires.2 _ _ _ (c.loop-i.invariant c.requires.0 c.requires.1 c.requires.2 c.requires.3) c.loop-i-test.true,
)

pub loop-i-preserved : goal.loop-i-preserved
loop-i-preserved c =
    λ t before b h. turn_more _ _ b _ _ _ (c.loop-i.invariant t before b h) c.loop-i-test.true _ c.put_turn.ensures

pub returns : goal.returns
returns c =
    λ t before b h. turn_end _ _ b _ _ _ (c.loop-i.invariant t before b h) c.loop-i-test.false
