-- `output::put` meets its contract. Assumes nothing.
use mathlib.Core.Path.{refl}
use native.Mathlib.Omega.{arith}
use Rattle.std.proofs.lemmas.Slice.{put_mid-paste}
use Rattle.output.proofs.Placing.{put_held, put_past}
use Rattle.output.proofs.put.Goals as goal

pub returns-then-text-out : goal.returns-then-text-out
returns-then-text-out c =
    put_held _ _ _ _ c.room_for-place.ensures.low c.room_for-place.ensures.place c.if-text-out.true _
    (put_mid-paste _ _ _ _ _ _ c.copy_from_slice.ensures.after (omega arith) refl)

pub returns : goal.returns
returns c =
    put_past _ _ _ _ c.room_for-place.ensures.low c.room_for-place.ensures.place c.if-text-out.false
