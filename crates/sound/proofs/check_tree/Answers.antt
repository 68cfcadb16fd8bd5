-- `sound::check_tree` meets its contract. Assumes nothing.
use Rattle.rows.proofs.Refusing.{handed_on}
use mathlib.Core.Path.{refl}
use Rattle.sound.proofs.Shortness.{tree_refused, tree_walked}
use Rattle.sound.proofs.check_tree.Goals as goal

pub returns-in_err-distances : goal.returns-in_err-distances
returns-in_err-distances c =
    rw (handed_on _ _ _ c.from_residual.ensures.1 c.in_err-distances.was) (
    tree_refused _ _ _ (c.requires) _ refl _ _ c.distances.ensures _ c.in_err-distances.was)

pub returns : goal.returns
returns c =
    tree_walked _ _ _ c.requires _ refl _ _ c.distances.ensures c.in_ok-distances.was _
    c.first_breaking.ensures _ c.refused_at.ensures
