-- What is asked of a network in lent rows, what the definitions answer, and whether a table of such cases holds. Assumes nothing.
use Rattle.std.specs.Prelude.{Err, Ok, Result, Bool, true, cond, ◌&&◌, List, [], ◌∷◌, ◌++◌, ℕ, replicate}
use Rattle.entries.specs.Row.{entry_row}
use Rattle.edition.specs.declared.Change.{Change}
use Rattle.edition.specs.declared.Search.{Search}
use Rattle.edition.specs.declared.Measure.{Measure}
use Rattle.edition.specs.Limits.{map_words, route_room}
use Rattle.edition.specs.Refusals.{said, if_taken}
use Rattle.rows.specs.Count.{rows_to}
use Rattle.rows.specs.Lists.{same}
use Rattle.network.specs.Network.{Net, net_of}
use Rattle.tree.specs.Tree.{tree_of, meet, apart}
use Rattle.edition.specs.declared.Refusal.{Refusal}
use Rattle.tree.specs.Answers.{meet_answer, apart_answer}
use Rattle.swap.specs.Swap.{new_dist}
use Rattle.swap.specs.Entry.{entry}
use Rattle.table.specs.Table.{table_verdict, table_row}
use Rattle.map.specs.Map.{map_verdict, map_row, count_unprotected, lowest}
use Rattle.change.specs.Change.{change_verdict, changed}
use Rattle.forward.specs.declared.Ask.{Ask as Question}
use Rattle.forward.specs.Forward.{cut_off, swap_link, lower_end}
use Rattle.forward.specs.Answers.{forward_verdict, way, handed}

-- Rows of links and parents, and the numbers stated with them.
pub record Port : Type 0 where
  pub links : List ℕ
  pub parents : List ℕ
  pub search : Search

-- Its network.
unfoldable pub net_in : Port → Net
net_in p = net_of p.links p.parents p.search

-- An entry whose every number is wrong.
unfoldable pub nine : List ℕ
nine = 9 ∷ 9 ∷ 9 ∷ 9 ∷ 9 ∷ 9 ∷ 9 ∷ 9 ∷ 9 ∷ 9 ∷ []

-- What is asked.
pub data Ask : Type 0 where
  -- the entry of a node
  entry_at : Port → ℕ → Ask
  -- the verdict on a table, and the row that held nines
  table_of : Port → Ask
  -- the verdict on the map, the row that held nines, the number of ones and the lowest node
  map_of : Port → Ask
  -- the verdict on a change (link, mark, length) of a table, and the rows of links and entries after it
  change : Port → ℕ → ℕ → ℕ → List ℕ → Ask
  -- what the forwarder says to a start while the tree link of a node is down, by a measure: the verdict, 0 for the ordinary row or 1
  -- for the detour row, the length, and the nodes handed back
  list_of : Port → ℕ → ℕ → Measure → Ask
  -- N of such a start, where the routes of it and of the swap link's lower end first meet, and the tree length from the failed node
  -- to there
  parts_of : Port → ℕ → ℕ → Measure → Ask
  -- where the routes of two nodes meet, and how far the two are apart: of each 0, 0 and the number, or a refusal's number and place
  pair_of : Port → ℕ → ℕ → Ask

-- A row of nines for the entries of a network.
unfoldable pub room : Port → List ℕ
room p = rows_to (λ x. nine) (net_in p).nodes

-- A row of nines for a list of the forwarder.
unfoldable pub list_room : List ℕ
list_room = replicate route_room 9

-- What the forwarder says of a list that it hands back; nothing on a refusal.
unfoldable pub list_said : Net → Question → List ℕ
list_said g a = if_taken (forward_verdict g a list_room list_room) (cond (cut_off g a) 1 0 ∷ (way g a).length ∷ []) []

-- What an answer of the tree says: 0, 0 and its number, or the refusal's number and place.
unfoldable pub numbers_of : Result ℕ Refusal → List ℕ
numbers_of (Ok d) = 0 ∷ 0 ∷ d ∷ []
numbers_of (Err r) = said (Err r)

-- What the definitions answer.
unfoldable pub answer : Ask → List ℕ
answer (entry_at p x) = entry_row (entry (net_in p) x)
answer (table_of p) = said (table_verdict (net_in p) (room p)) ++ table_row (net_in p) (room p)
answer (map_of p) =
    let g = net_in p in
    said (map_verdict g (replicate map_words 9)) ++ map_row g (replicate map_words 9) ++ (count_unprotected g ∷ lowest g ∷ [])
answer (change p e s w entries) =
    let c : Change = record { link = e; mark = s; length = w } in
    let after = changed p.parents p.search c (record { links = p.links; entries = entries }) in
    said (change_verdict (net_in p) entries c) ++ after.links ++ after.entries
answer (list_of p u x s) =
    let g = net_in p in
    let a : Question = record { start = u; failed = x; measure = s } in
    said (forward_verdict g a list_room list_room) ++ list_said g a ++ handed g a list_room list_room
answer (parts_of p u x s) =
    let g = net_in p in
    let a : Question = record { start = u; failed = x; measure = s } in
    let c = meet (tree_of g) u (lower_end g a) in
    new_dist (tree_of g) x (g.link (swap_link g a)) u ∷ c ∷ apart (tree_of g) x c ∷ []
answer (pair_of p u z) = numbers_of (meet_answer (net_in p) u z) ++ numbers_of (apart_answer (net_in p) u z)

-- A question and its numbers.
pub data Case : Type 0 where
  ◌gives◌ : Ask → List ℕ → Case

infix 5 ◌gives◌
-- Does every case hold?
unfoldable pub holds : List Case → Bool
holds [] = true
holds ((q gives a) ∷ rest) = same (answer q) a && holds rest
