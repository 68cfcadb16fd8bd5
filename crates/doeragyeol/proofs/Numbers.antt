-- Which of SCOPE's numbers each call from C can give, and no other. Assumes nothing.
use mathlib.Core.Path.{◌≡◌, refl}
use mathlib.Core.Bool.{true}
use mathlib.Core.List.{List, [], ◌∷◌}
use Prim.Native.Nat.{ℕ}
use Rattle.edition.specs.Refusals.{Verdict, number_of}
use Rattle.edition.specs.declared.Why.TheVariants.{NoRoom}
use Rattle.rows.specs.Lists.{has}
use Rattle.rows.proofs.Numbered.{Gives, if_gives, none_gives, first_gives, gives_left}
use Rattle.network.specs.Network.{Net, net_of}
use Rattle.tree.proofs.Numbers.{ways_give}
use Rattle.sound.specs.Sound.{net_verdict}
use Rattle.network.specs.Records.{bad_rule}
use Rattle.sound.proofs.Numbers.{of_network, net_gives}
use Rattle.table.proofs.Numbers.{of_table}
use Rattle.map.specs.Map.{map_verdict}
use Rattle.map.proofs.Numbers.{map_gives}
use Rattle.forward.specs.declared.Ask.{Ask}
use Rattle.forward.proofs.Numbers.{of_forwarder, forward_gives}
use Rattle.archive.specs.Writer.{write_verdict}
use Rattle.archive.specs.Reader.{Rows}
use Rattle.archive.proofs.Numbers.{one_to_ten, of_files, write_gives, read_gives}
use Rattle.doeragyeol.specs.Word.{then_room}
use Rattle.doeragyeol.specs.Calls.{filed_net, check_said, map_said, write_said, read_said, forward_said, distance_said}

then_gives : (ns : List ℕ) → has 10 ns ≡ true → (v : Verdict) (n : ℕ) (row : List ℕ) → Gives ns v → Gives ns (then_room v n row)
unfolding then_room number_of
then_gives ns ten v n row h = first_gives ns _ _ h (first_gives ns _ _ (if_gives ns _ NoRoom 0 ten) (none_gives ns))

-- the check and the map: no number but 1 to 10 and 14
pub check_said_gives : (g : Net) (row : List ℕ) → Gives of_table (check_said g row)
unfolding check_said has
check_said_gives g row = then_gives of_table refl (net_verdict g) 2 row (gives_left of_network (10 ∷ []) _ (net_gives g))

pub map-said_gives : (g : Net) (words row : List ℕ) → Gives of_table (map_said g words row)
unfolding map_said has
map-said_gives g words row = then_gives of_table refl (map_verdict g words) 2 row (map_gives g words)

-- the writer: no number but 1 to 10, and no 14, since a file means rule 0
pub write_said_gives :
    (links parents : List ℕ) (root depth : ℕ) (file row : List ℕ) → Gives one_to_ten (write_said (filed_net links parents root depth) file row)
unfolding write_said bad_rule net_of has
write_said_gives links parents root depth file row =
    let g = filed_net links parents root depth in
    then_gives one_to_ten refl (write_verdict g file) 1 row (write_gives g refl file)

-- the reader: no number but 20, 21, 22, 1 to 10 and 24
pub read_said_gives : (file : List ℕ) (rows : Rows) (row : List ℕ) → Gives of_files (read_said file rows row)
unfolding read_said
read_said_gives file rows row = read_gives file _

-- the forwarder: no number but 1 to 10, 14, 15, 16 and 17
pub forward_said_gives : (g : Net) (a : Ask) (ordinary detour row : List ℕ) → Gives of_forwarder (forward_said g a ordinary detour row)
unfolding forward_said
forward_said_gives g a ordinary detour row = forward_gives g a _ detour

-- the tree distance: no number but 1, 8 and 10
pub distance_said_gives : (g : Net) (u z : ℕ) (row : List ℕ) → Gives (1 ∷ 8 ∷ 10 ∷ []) (distance_said g u z row)
unfolding distance_said then_room number_of has
distance_said_gives g u z row =
    first_gives _ _ _ (gives_left (1 ∷ 8 ∷ []) (10 ∷ []) _ (ways_give g u z))
    (first_gives _ _ _ (if_gives (1 ∷ 8 ∷ 10 ∷ []) _ NoRoom 0 refl) (none_gives (1 ∷ 8 ∷ 10 ∷ [])))
