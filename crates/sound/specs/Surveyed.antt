-- The check of a network that leaves a survey: what is known of every node, in one row. Assumes nothing.
use Rattle.std.specs.Prelude.{◌≡◌, List, [], ◌∷◌, ◌++◌, ℕ, ◌<◌, ◌≤◌, ltb}
use Rattle.edition.specs.Limits.{longest, node_limit, memory_limits}
use Rattle.edition.specs.Refusals.{Verdict, taken, if_taken}
use Rattle.edition.specs.declared.Why.TheVariants.{BadEnds, BadMark, BadParent, NoRoute, NoRoom}
use Rattle.rows.specs.Count.{rows_to}
use Rattle.rows.specs.First.{refuse_if, refuse_at, firstly}
use Rattle.network.specs.Network.{Net}
use Rattle.network.specs.Records.{size_verdict, bad_ends, bad_mark, bad_parent}
use Rattle.tree.specs.Tree.{tree_of}
use Rattle.survey.specs.Known.{known}
use Rattle.survey.specs.Row.{nodes_in, known_row, known_at, past_known}
use Rattle.sound.specs.Sound.{no_route, net_verdict}

-- 1 to 4, 14, 5 to 7.
unfoldable pub plain_verdict : Net → Verdict
plain_verdict g =
    firstly
    (size_verdict memory_limits g.nodes g.links g.search ∷
    refuse_at (λ e. bad_ends g.nodes (g.link e)) g.links BadEnds ∷
    refuse_at (λ e. bad_mark (g.link e).mark) g.links BadMark ∷
    refuse_at (bad_parent g) g.nodes BadParent ∷ [])

-- 10 where a row holds fewer records than memory has nodes.
unfoldable pub narrow : List ℕ → Verdict
narrow row = refuse_if (ltb (nodes_in row) node_limit) NoRoom 0

-- That 10, then 1 to 4, 14, 5 to 9.
unfoldable pub sound_verdict : Net → List ℕ → Verdict
sound_verdict g row = firstly (narrow row ∷ net_verdict g ∷ [])

-- The row with the record of every node.
unfoldable pub survey_of : Net → List ℕ → List ℕ
survey_of g row = rows_to (λ x. known_row (known (tree_of g) x)) g.nodes ++ past_known g.nodes row

-- What the lent row then holds: the survey where that 10, 1 to 8 and 14 refuse nothing, so where 9 refuses too; else what it held.
unfoldable pub sound_row : Net → List ℕ → List ℕ
sound_row g row =
    if_taken (firstly (narrow row ∷ plain_verdict g ∷ refuse_at (no_route g) g.nodes NoRoute ∷ [])) (survey_of g row) row

-- The network is sound, no tree link is longer than a length can be, and the row has the record of every node.
pub record Surveyed (g : Net) (row : List ℕ) : Type 0 where
  pub is_taken : net_verdict g ≡ taken
  pub few : (u : ℕ) → (tree_of g).rise u ≤ longest
  pub room : g.nodes ≤ nodes_in row
  pub each : (x : ℕ) → x < g.nodes → known_at row x ≡ known (tree_of g) x
