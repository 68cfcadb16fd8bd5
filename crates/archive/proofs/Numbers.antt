-- Which of SCOPE's numbers the writer and the reader of a file can give, and no other. Assumes nothing.
use mathlib.Core.Path.{◌≡◌, refl}
use mathlib.Core.Bool.{false}
use mathlib.Core.List.{List, [], ◌∷◌, ◌++◌}
use Prim.Native.Nat.{ℕ}
use Rattle.edition.specs.declared.Why.TheVariants.{NoRoom, BadLength, BadEntry}
use Rattle.edition.specs.Refusals.{number_of}
use Rattle.edition.specs.Stored.{edition_limits}
use Rattle.rows.specs.Lists.{has}
use Rattle.rows.proofs.Numbered.{Gives, if_gives, at_gives, none_gives, first_gives, to_gives, gives_left, gives_right}
use Rattle.network.specs.Network.{Net}
use Rattle.network.specs.Records.{bad_rule}
use Rattle.sound.proofs.Numbers.{one_to_four, five_to_nine, one_to_nine, ruled_give, records_give, ruled_net_gives}
use Rattle.block.proofs.Numbers.{of_blocks, block_gives}
use Rattle.archive.specs.Writer.{write_verdict}
use Rattle.archive.specs.Reader.{nodes_read, links_read, search_read, net_read, Rows, block_refusal, head_verdict, rest_verdict, read_verdict}

abbrev pub one_to_ten : List ℕ
one_to_ten = one_to_nine ++ 10 ∷ []

-- the writer: 1 to 10
pub write_gives : (g : Net) → bad_rule g.search.rule ≡ false → (row : List ℕ) → Gives one_to_ten (write_verdict g row)
unfolding write_verdict number_of has
write_gives g fine row =
    first_gives one_to_ten _ _ (gives_left one_to_nine (10 ∷ []) _ (ruled_net_gives g fine))
    (first_gives one_to_ten _ _ (if_gives one_to_ten _ NoRoom 0 refl) (none_gives one_to_ten))

-- a file: 20, 21, 22, 1 to 10, 24
abbrev pub of_files : List ℕ
of_files = of_blocks ++ one_to_four ++ five_to_nine ++ 10 ∷ 24 ∷ []

module _ (file : List ℕ) (n m : ℕ) where
  part_gives : (i : ℕ) → Gives of_files (block_refusal file n m i)
  unfolding block_refusal
  part_gives i = gives_left of_blocks (one_to_four ++ five_to_nine ++ 10 ∷ 24 ∷ []) _ (block_gives _ i _ _)

pub read_gives : (file : List ℕ) (rows : Rows) → Gives of_files (read_verdict file rows)
unfolding read_verdict head_verdict rest_verdict search_read bad_rule number_of has
read_gives file rows = first_gives of_files _ _ head (first_gives of_files _ _ rest (none_gives of_files))
  where
    head : Gives of_files (head_verdict file)
    head =
        first_gives of_files _ _ (if_gives of_files _ BadLength 0 refl)
        (first_gives of_files _ _ (part_gives file 0 0 0)
        (first_gives of_files _ _
        (gives_right (one_to_four ++ five_to_nine ++ 10 ∷ 24 ∷ []) of_blocks _
        (gives_left one_to_four (five_to_nine ++ 10 ∷ 24 ∷ []) _ (ruled_give edition_limits (nodes_read file) (links_read file) (search_read file) refl)))
        (none_gives of_files)))

    rest : Gives of_files (rest_verdict file rows)
    rest =
        first_gives of_files _ _ (if_gives of_files _ BadLength 0 refl)
        (first_gives of_files _ _ (to_gives of_files _ (part_gives file (nodes_read file) (links_read file)) _)
        (first_gives of_files _ _
        (gives_right (one_to_four ++ five_to_nine ++ 10 ∷ 24 ∷ []) of_blocks _
        (gives_right (five_to_nine ++ 10 ∷ 24 ∷ []) one_to_four _ (gives_left five_to_nine (10 ∷ 24 ∷ []) _ (records_give (net_read file)))))
        (first_gives of_files _ _ (if_gives of_files _ NoRoom 0 refl)
        (first_gives of_files _ _ (at_gives of_files _ (nodes_read file) BadEntry refl) (none_gives of_files)))))
