-- In every sound network no tree distance of two nodes passes the lengths of 511 links. Lengths are 16-bit numbers, which the law
-- takes as its one hypothesis beside soundness. Assumes nothing.
use Prim.Native.Nat.{ℕ, ◌<◌, ◌≤◌}
use native.Mathlib.Omega.{arith}
use Rattle.edition.specs.Limits.{longest, way_limit}
use Rattle.network.specs.Network.{Net}
use Rattle.tree.specs.Tree.{tree_of, apart}
use Rattle.tree.proofs.Bounded.{apart_bound}
use Rattle.tree.proofs.Made.{rise_held}
use Rattle.sound.proofs.Sounds.{Sound}
use Rattle.sound.proofs.Holding.{nodes-few, home, up_in}

pub distance_bound :
    (g : Net)
    → Sound g → ((e : ℕ) → (g.link e).length ≤ longest) → (u z : ℕ) → u < g.nodes → z < g.nodes → apart (tree_of g) u z ≤ way_limit
unfolding tree_of
distance_bound g s held u z lu lz =
    omega (arith, apart_bound (tree_of g) (up_in g s) longest (rise_held g held) u z (home g s u lu) (home g s z lz) lu lz, nodes-few g s)
