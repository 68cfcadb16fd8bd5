-- Which of SCOPE's numbers the block reader can give, and no other. Assumes nothing.
use mathlib.Core.Path.{refl}
use mathlib.Core.List.{List, [], ◌∷◌}
use Prim.Native.Nat.{ℕ}
use Rattle.edition.specs.declared.Why.TheVariants.{BadLength, BadCheck, BadBlock}
use Rattle.edition.specs.Refusals.{number_of}
use Rattle.rows.specs.Lists.{has}
use Rattle.rows.proofs.Numbered.{Gives, if_gives, none_gives, first_gives}
use Rattle.block.specs.Block.{block_verdict}

-- a block: 20, 21, 22
abbrev pub of_blocks : List ℕ
of_blocks = 20 ∷ 21 ∷ 22 ∷ []

pub block_gives : (kind number used : ℕ) (b : List ℕ) → Gives of_blocks (block_verdict kind number used b)
unfolding block_verdict number_of has
block_gives kind number used b =
    first_gives of_blocks _ _ (if_gives of_blocks _ BadLength 0 refl)
    (first_gives of_blocks _ _ (if_gives of_blocks _ BadCheck number refl)
    (first_gives of_blocks _ _ (if_gives of_blocks _ BadBlock number refl) (none_gives of_blocks)))
