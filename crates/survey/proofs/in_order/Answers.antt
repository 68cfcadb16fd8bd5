-- `survey::in_order` meets its contract. Assumes nothing.
use mathlib.Core.Path.{refl}
use native.Mathlib.Omega.{arith}
use Rattle.survey.proofs.Begun.{fresh}
use Rattle.network.specs.Network.{net_of}
use Rattle.tree.specs.Tree.{tree_of}
use Rattle.survey.proofs.in_order.Goals as goal

pub begin-requires : goal.begin-requires
unfolding tree_of net_of
begin-requires c =
    (_, fresh _ _ _ c.requires.0 refl c.requires.1)

pub place_all-requires : goal.place_all-requires
unfolding tree_of net_of
place_all-requires c = (
  c.requires.0,
  c.begin.ensures _
      (fresh _ _ _ c.requires.0 refl c.requires.1),
  omega (arith, c.requires.0.few),
)
