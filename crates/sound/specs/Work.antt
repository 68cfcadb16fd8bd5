-- What private functions of this crate promise each other. No public promise cites this page. Assumes nothing.
use Rattle.std.specs.Prelude.{◌≡◌, Bool, false, not, ◌&&◌, List, [], ◌∷◌, ℕ, ◌<◌, get_or}
use Rattle.edition.specs.Refusals.{Verdict, if_taken}
use Rattle.edition.specs.declared.Why.TheVariants.{NoRoute, NotShort}
use Rattle.edition.specs.Limits.{memory_limits}
use Rattle.rows.specs.First.{refuse_at, firstly}
use Rattle.network.specs.declared.Link.{Link}
use Rattle.network.specs.Network.{Net, links_in, link_in, in_service}
use Rattle.network.specs.Records.{bad_nodes, bad_root, bad_ends, bad_parent}
use Rattle.survey.specs.Row.{known_at}
use Rattle.sound.specs.Sound.{no_route, keeps_short, not_short}
use Rattle.sound.specs.Surveyed.{survey_of}

-- the link is in service and breaks shortness, by a row of distances
unfoldable pub breaks_by : List ℕ → Link → Bool
breaks_by row l = in_service l && not (keeps_short (get_or row l.first 0) (get_or row l.second 0) l.length)

-- what checks 1, 3, 5 and 7 leave
pub record Passed (g : Net) : Type 0 where
  pub nodes-ok : bad_nodes memory_limits g.nodes ≡ false
  pub root_ok : bad_root g.nodes g.search.root ≡ false
  pub ends_ok : (e : ℕ) → e < g.links → bad_ends g.nodes (g.link e) ≡ false
  pub parents-ok : (u : ℕ) → u < g.nodes → bad_parent g u ≡ false

-- 8 and 9
unfoldable pub tree_verdict : Net → Verdict
tree_verdict g =
    firstly (refuse_at (no_route g) g.nodes NoRoute ∷ refuse_at (not_short g) g.links NotShort ∷ [])

-- the link is in service and breaks shortness, by a survey
unfoldable pub breaks_in : List ℕ → Link → Bool
breaks_in row l = in_service l && not (keeps_short (known_at row l.first).near (known_at row l.second).near l.length)

-- both ends of each link are below k
pub record Ended (links : List ℕ) (k : ℕ) : Type 0 where
  pub first-low : (e : ℕ) → e < links_in links → (link_in links e).first < k
  pub second_low : (e : ℕ) → e < links_in links → (link_in links e).second < k

-- the row with the survey of a network in which every node has a route, as it was of any other
unfoldable pub tree_row : Net → List ℕ → List ℕ
tree_row g row = if_taken (refuse_at (no_route g) g.nodes NoRoute) (survey_of g row) row
