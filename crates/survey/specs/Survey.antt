-- What is refused before and by a walk over all nodes, parents first, and the row that it leaves: of distances, or of a record a
-- node. Assumes nothing.
use Rattle.std.specs.Prelude.{Bool, not, List, [], ◌∷◌, ◌++◌, ℕ, leb, length}
use Rattle.edition.specs.Refusals.{Verdict, if_taken}
use Rattle.edition.specs.declared.Why.TheVariants.{BadRoot, BadParent, NoRoute}
use Rattle.rows.specs.Count.{row_with, rows_to}
use Rattle.rows.specs.First.{refuse_if, refuse_at, firstly}
use Rattle.network.specs.Network.{Net}
use Rattle.network.specs.Records.{bad_root}
use Rattle.tree.specs.Tree.{Tree, tree_of, has_route, dist}
use Rattle.tree.specs.Answers.{room_verdict}
use Rattle.survey.specs.Known.{known}
use Rattle.survey.specs.Row.{nodes_in, known_row, past_known}

-- Is the parent of u no node?
unfoldable pub strays : Tree → ℕ → Bool
strays t u = leb t.size (t.up u)

-- Is u without a route to the root?
unfoldable pub routeless : Tree → ℕ → Bool
routeless t u = not (has_route t u)

-- 1, 10 where there is room for fewer nodes than there are, 3, then 7 where the parent of a node is no node.
unfoldable pub closed_verdict : Net → ℕ → Verdict
closed_verdict g room =
    firstly
    (room_verdict g.nodes room ∷
    refuse_if (bad_root g.nodes g.search.root) BadRoot 0 ∷
    refuse_at (strays (tree_of g)) g.nodes BadParent ∷ [])

-- These, then 8.
unfoldable pub survey_verdict : Net → List ℕ → Verdict
survey_verdict g row =
    firstly (closed_verdict g (length row) ∷ refuse_at (routeless (tree_of g)) g.nodes NoRoute ∷ [])

-- The row with d(u) of every node; on a refusal the row as it was.
unfoldable pub survey_row : Net → List ℕ → List ℕ
survey_row g row = let new = row_with (dist (tree_of g)) g.nodes row in if_taken (survey_verdict g row) new row

-- What `survey_verdict` says, of a row of a record a node.
unfoldable pub surveyed_verdict : Net → List ℕ → Verdict
surveyed_verdict g row =
    firstly (closed_verdict g (nodes_in row) ∷ refuse_at (routeless (tree_of g)) g.nodes NoRoute ∷ [])

-- The row with what is known of every node; on a refusal the row as it was.
unfoldable pub surveyed_row : Net → List ℕ → List ℕ
surveyed_row g row =
    let new = rows_to (λ x. known_row (known (tree_of g) x)) g.nodes ++ past_known g.nodes row in
    if_taken (surveyed_verdict g row) new row
