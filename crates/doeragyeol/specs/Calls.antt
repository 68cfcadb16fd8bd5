-- What each call from C that answers values says, and what the lent rows then hold. `row` is the row lent for the values.
-- Assumes nothing.
use Rattle.std.specs.Prelude.{Result, Ok, Err, cond, List, [], ◌∷◌, ℕ, ltb, length}
use Rattle.edition.specs.declared.Refusal.{Refusal}
use Rattle.edition.specs.Refusals.{Verdict, if_taken}
use Rattle.edition.specs.Stored.{by_number}
use Rattle.network.specs.Network.{Net, net_of}
use Rattle.tree.specs.Tree.{tree_of, apart}
use Rattle.tree.specs.Answers.{ways_verdict}
use Rattle.sound.specs.Sound.{net_verdict}
use Rattle.map.specs.Map.{map_verdict, map_row, count_unprotected, lowest}
use Rattle.forward.specs.declared.Ask.{Ask}
use Rattle.forward.specs.declared.Applies.{Applies}
use Rattle.forward.specs.declared.Applies.TheVariants.{Ordinary, Detour}
use Rattle.forward.specs.Answers.{forward_verdict, applies, ordinary_row, detour_row}
use Rattle.archive.specs.Writer.{file_length, write_verdict, written_row}
use Rattle.archive.specs.Reader.{nodes_read, links_read, search_read, Rows, read_verdict, rows_read}
use Rattle.doeragyeol.specs.Word.{then_room, told}

-- The network of lent rows, with root, depth and tie rule as three numbers.
abbrev pub lent_net : List ℕ → List ℕ → ℕ → ℕ → ℕ → Net
lent_net links parents root depth rule = net_of links parents (record { root = root; depth = depth; rule = rule })

-- The network that the writer files: an edition 1 file means tie rule 0.
abbrev pub filed_net : List ℕ → List ℕ → ℕ → ℕ → Net
filed_net links parents root depth = net_of links parents (by_number (record { root = root; depth = depth }))

-- The network of lent rows and a root. The tree distance looks at no depth and no tie rule (`no_depth`), and 0 stands in their place.
abbrev pub tree_net : List ℕ → List ℕ → ℕ → Net
tree_net links parents root = lent_net links parents root 0 0

-- The three rows lent to the reader.
abbrev pub lent_rows : List ℕ → List ℕ → List ℕ → Rows
lent_rows links parents entries = record { links = links; parents = parents; entries = entries }

-- The check: 1 to 4, 14, 5 to 9, then room for two values. They are how many nodes and links there are.
unfoldable pub check_said : Net → List ℕ → Verdict
check_said g row = then_room (net_verdict g) 2 row

-- What the row lent for its two values then holds.
unfoldable pub sizes_row : Net → List ℕ → List ℕ
sizes_row g row = told (check_said g row) (g.nodes ∷ g.links ∷ []) row

-- The unprotected map: 1 to 4, 14, 5 to 10, then room for two values. They are the number of ones and the lowest unprotected node.
unfoldable pub map_said : Net → List ℕ → List ℕ → Verdict
map_said g words row = then_room (map_verdict g words) 2 row

-- What the row lent for the eight words then holds.
unfoldable pub words_row : Net → List ℕ → List ℕ → List ℕ
words_row g words row = if_taken (map_said g words row) (map_row g words) words

-- What the row lent for its two values then holds.
unfoldable pub open_row : Net → List ℕ → List ℕ → List ℕ
open_row g words row = told (map_said g words row) (count_unprotected g ∷ lowest g ∷ []) row

-- The writer: 1 to 10, then room for one value. It is the file's length.
unfoldable pub write_said : Net → List ℕ → List ℕ → Verdict
write_said g file row = then_room (write_verdict g file) 1 row

-- What the lent bytes then hold.
unfoldable pub file_row : Net → List ℕ → List ℕ → List ℕ
file_row g file row = if_taken (write_said g file row) (written_row g file) file

-- What the row lent for its one value then holds.
unfoldable pub length_row : Net → List ℕ → List ℕ → List ℕ
length_row g file row = told (write_said g file row) (file_length g ∷ []) row

-- The reader: the order for a file. A row too short for the four values n, m, root and depth is 10 in its place, as if the other
-- rows were empty.
unfoldable pub read_said : List ℕ → Rows → List ℕ → Verdict
read_said file rows row = read_verdict file (cond (ltb (length row) 4) (lent_rows [] [] []) rows)

-- What the three lent rows then hold.
unfoldable pub rows_left : List ℕ → Rows → List ℕ → Rows
rows_left file rows row = if_taken (read_said file rows row) (rows_read file rows) rows

-- What the row lent for its four values then holds.
unfoldable pub header_row : List ℕ → Rows → List ℕ → List ℕ
header_row file rows row =
    let s = search_read file in
    told (read_said file rows row) (nodes_read file ∷ links_read file ∷ s.root ∷ s.depth ∷ []) row

-- The forwarder: 1 to 4, 14, 5 to 10, 15, 16 and 17. A row too short for the three values is 10 in its place, as if the ordinary row
-- were empty.
unfoldable pub forward_said : Net → Ask → List ℕ → List ℕ → List ℕ → Verdict
forward_said g a ordinary detour row = forward_verdict g a (cond (ltb (length row) 3) [] ordinary) detour

-- What the ordinary row then holds.
unfoldable pub ordinary_left : Net → Ask → List ℕ → List ℕ → List ℕ → List ℕ
ordinary_left g a ordinary detour row = if_taken (forward_said g a ordinary detour row) (ordinary_row g a ordinary detour) ordinary

-- What the detour row then holds.
unfoldable pub detour_left : Net → Ask → List ℕ → List ℕ → List ℕ → List ℕ
detour_left g a ordinary detour row = if_taken (forward_said g a ordinary detour row) (detour_row g a ordinary detour) detour

-- The three values: 0 where the ordinary row applies and 1 where the detour row does, how many nodes the list has, and how long it is.
unfoldable pub way_values : Result Applies Refusal → List ℕ
way_values (Ok (Ordinary w)) = 0 ∷ w.nodes ∷ w.length ∷ []
way_values (Ok (Detour w)) = 1 ∷ w.nodes ∷ w.length ∷ []
way_values (Err r) = []

-- What the row lent for its three values then holds.
unfoldable pub way_row : Net → Ask → List ℕ → List ℕ → List ℕ → List ℕ
way_row g a ordinary detour row = told (forward_said g a ordinary detour row) (way_values (applies g a ordinary detour)) row

-- The tree distance of u and z: 1, 8 at u, 8 at z, then room for one value. It is t(u,z).
unfoldable pub distance_said : Net → ℕ → ℕ → List ℕ → Verdict
distance_said g u z row = then_room (ways_verdict g u z) 1 row

-- What the row lent for its one value then holds.
unfoldable pub apart_row : Net → ℕ → ℕ → List ℕ → List ℕ
apart_row g u z row = told (distance_said g u z row) (apart (tree_of g) u z ∷ []) row
