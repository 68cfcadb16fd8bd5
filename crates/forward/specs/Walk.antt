-- A walk over links in service: a list of nodes with the links of its steps. Assumes nothing.
use Rattle.std.specs.Prelude.{◌≡◌, Bool, true, ◌&&◌, ◌||◌, List, [], ◌∷◌, ℕ, ◌<◌, eqb}
use Rattle.network.specs.declared.Link.{Link}
use Rattle.network.specs.Network.{Net, in_service}

-- Are u and v the two ends of the link?
unfoldable pub joins : Link → ℕ → ℕ → Bool
joins l u v = (eqb l.first u && eqb l.second v) || (eqb l.first v && eqb l.second u)

-- A step from u to v over link e: it is a link of the network, in service, and joins the two.
pub record Step (g : Net) (e u v : ℕ) : Type 0 where
  pub real : e < g.links
  pub serves : in_service (g.link e) ≡ true
  pub joined : joins (g.link e) u v ≡ true

-- The nodes lead from u to w, and each is joined to the next by the link beside it: a node alone, or a step from it and a walk on.
pub data Walk (g : Net) : ℕ → ℕ → List ℕ → List ℕ → Type 0 where
  stop : {u : ℕ} → Walk g u u (u ∷ []) []
  step : {u v w e : ℕ} {nodes links : List ℕ} → Step g e u v → Walk g v w nodes links → Walk g u w (u ∷ nodes) (e ∷ links)
