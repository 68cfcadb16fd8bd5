-- `change::flip_up` meets its contract. Assumes nothing.
use Rattle.change.proofs.Flipping.{flip-start, flip-room, flip-more, flip_less, flip-end}
use Rattle.change.proofs.flip_up.Goals as goal

pub loop-c-init : goal.loop-c-init
loop-c-init c =
    flip-start _ _ _ c.requires.0 _ c.requires.1 _ c.requires.2

pub flip_at-requires : goal.flip_at-requires
flip_at-requires c =
    flip-room _ _ _ c.requires.0 _ c.requires.1 _ c.requires.2 _ _ c.loop-c.invariant

pub loop-c-smaller : goal.loop-c-smaller
loop-c-smaller c =
    flip_less _ _ _ c.requires.0 _ c.requires.1 _ c.requires.2 _ _ c.loop-c.invariant _ c.flip_at.ensures c.loop-c-test.true _ c.up-c.ensures

pub loop-c-preserved : goal.loop-c-preserved
loop-c-preserved c =
    flip-more _ _ _ c.requires.0 _ c.requires.1 _ c.requires.2 _ _ c.loop-c.invariant _ c.flip_at.ensures c.loop-c-test.true _ c.up-c.ensures

pub flip_at-requires-2 : goal.flip_at-requires-2
flip_at-requires-2 c =
    flip-room _ _ _ c.requires.0 _ c.requires.1 _ c.requires.2 _ _ c.loop-c.invariant

pub returns : goal.returns
returns c =
    flip-end _ _ _ c.requires.0 _ c.requires.1 _ c.requires.2 _ _ c.loop-c.invariant _ c.flip_at-2.ensures c.loop-c-test.false
