-- Which of SCOPE's numbers the map can give, and no other. Assumes nothing.
use mathlib.Core.Path.{refl}
use mathlib.Core.List.{List, [], ◌∷◌}
use Prim.Native.Nat.{ℕ}
use Rattle.edition.specs.declared.Why.TheVariants.{NoRoom}
use Rattle.edition.specs.Refusals.{number_of}
use Rattle.rows.specs.Lists.{has}
use Rattle.rows.proofs.Numbered.{Gives, if_gives, none_gives, first_gives, gives_left}
use Rattle.network.specs.Network.{Net}
use Rattle.sound.proofs.Numbers.{of_network, net_gives}
use Rattle.table.proofs.Numbers.{of_table}
use Rattle.map.specs.Map.{map_verdict}

-- the unprotected map: 1 to 10 and 14
pub map_gives : (g : Net) (row : List ℕ) → Gives of_table (map_verdict g row)
unfolding map_verdict number_of has
map_gives g row =
    first_gives of_table _ _ (gives_left of_network (10 ∷ []) _ (net_gives g))
    (first_gives of_table _ _ (if_gives of_table _ NoRoom 0 refl) (none_gives of_table))
