-- Which of SCOPE's numbers a change can give, and no other. Assumes nothing.
use mathlib.Core.Path.{refl}
use mathlib.Core.List.{List, [], ◌∷◌, ◌++◌}
use Prim.Native.Nat.{ℕ}
use Rattle.edition.specs.declared.Change.{Change}
use Rattle.edition.specs.declared.Why.TheVariants.{BadMark, LinkMissing, TreeLink, BreaksShort}
use Rattle.edition.specs.Refusals.{number_of}
use Rattle.rows.specs.Lists.{has}
use Rattle.rows.proofs.Numbered.{Gives, if_gives, none_gives, first_gives, gives_left}
use Rattle.network.specs.Network.{Net}
use Rattle.table.proofs.Numbers.{of_table, table_gives}
use Rattle.change.specs.Change.{change_verdict}

-- a change: 1 to 14
abbrev pub of_change : List ℕ
of_change = of_table ++ 11 ∷ 12 ∷ 13 ∷ []

pub change_gives : (g : Net) (entries : List ℕ) (c : Change) → Gives of_change (change_verdict g entries c)
unfolding change_verdict number_of has
change_gives g entries c =
    first_gives of_change _ _ (gives_left of_table (11 ∷ 12 ∷ 13 ∷ []) _ (table_gives g entries))
    (first_gives of_change _ _ (if_gives of_change _ LinkMissing 0 refl)
    (first_gives of_change _ _ (if_gives of_change _ BadMark c.link refl)
    (first_gives of_change _ _ (if_gives of_change _ TreeLink c.link refl)
    (first_gives of_change _ _ (if_gives of_change _ BreaksShort c.link refl) (none_gives of_change)))))
