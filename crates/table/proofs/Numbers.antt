-- Which numbers the table and one entry can give. Assumes nothing.
use Rattle.std.proofs.Common.{ℕ, List, [], ◌∷◌, ◌++◌, refl}
use Rattle.edition.specs.declared.Why.TheVariants.{NoRoute, NoRoom}
use Rattle.edition.specs.Refusals.{number_of}
use Rattle.rows.specs.Lists.{has}
use Rattle.rows.proofs.Numbered.{Gives, if_gives, none_gives, first_gives, gives_left}
use Rattle.network.specs.Network.{Net}
use Rattle.sound.proofs.Numbers.{of_network, net_gives}
use Rattle.table.specs.Table.{table_verdict, entry_verdict}

abbrev pub of_table : List ℕ
of_table = of_network ++ 10 ∷ []

-- the table gives one of 1 to 10 or 14
pub table_gives : (g : Net) (row : List ℕ) → Gives of_table (table_verdict g row)
unfolding table_verdict number_of has
table_gives g row =
    first_gives of_table _ _ (gives_left of_network (10 ∷ []) _ (net_gives g))
    (first_gives of_table _ _ (if_gives of_table _ NoRoom 0 refl) (none_gives of_table))

-- one entry gives one of 1 to 9 or 14
pub entry_gives : (g : Net) (x : ℕ) → Gives of_network (entry_verdict g x)
unfolding entry_verdict number_of has
entry_gives g x =
    first_gives of_network _ _ (net_gives g) (first_gives of_network _ _ (if_gives of_network _ NoRoute x refl) (none_gives of_network))
