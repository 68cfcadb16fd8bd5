-- The tree distance looks at no depth and no tie rule: whatever stands in their place, the call says and leaves the same.
-- Assumes nothing.
use mathlib.Core.Path.{◌≡◌, refl}
use mathlib.Core.List.{List}
use Prim.Native.Nat.{ℕ}
use Rattle.network.specs.Network.{net_of}
use Rattle.tree.specs.Tree.{tree_of}
use Rattle.tree.specs.Answers.{lost, way_verdict, ways_verdict}
use Rattle.doeragyeol.specs.Calls.{lent_net, distance_said, apart_row}

pub no_depth :
    (links parents : List ℕ) (root d e r s u z : ℕ) (row : List ℕ)
    → (distance_said (lent_net links parents root d r) u z row ≡ distance_said (lent_net links parents root e s) u z row)
    × (apart_row (lent_net links parents root d r) u z row ≡ apart_row (lent_net links parents root e s) u z row)
unfolding distance_said apart_row ways_verdict way_verdict lost tree_of net_of
no_depth links parents root d e r s u z row = (refl, refl)
