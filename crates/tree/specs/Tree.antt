-- The tree that the parent links make: routes, distances, what is below a node, where routes meet, the tree path between two
-- nodes. All of it is said of the tree alone, so what leaves the tree alone leaves all of it alone. Assumes nothing.
use Rattle.std.specs.Prelude.{ℕ, zero, suc, ◌+◌, Bool, false, cond, ◌||◌, List, [], ◌∷◌, length, ◌==◌}
use Rattle.rows.specs.Count.{only_if}
use Rattle.rows.specs.Lists.{has, up_to, first_of, total}
use Rattle.network.specs.Network.{Net, other_end}

-- A tree: how many nodes, the root, and of each node its parent link, its parent, and the length of that link.
pub record Tree : Type 0 where
  pub size : ℕ
  pub root : ℕ
  pub link : ℕ → ℕ
  pub up : ℕ → ℕ
  pub rise : ℕ → ℕ

-- Each node but the root names its parent link; the other end is its parent. The root has no way up: it stays where it is.
unfoldable pub tree_of : Net → Tree
tree_of g =
    record {
      size = g.nodes;
      root = g.search.root;
      link = g.parent;
      up = λ u. let p = other_end (g.link (g.parent u)) u in cond (u == g.search.root) u p;
      rise = λ u. let w = (g.link (g.parent u)).length in cond (u == g.search.root) 0 w;
    }

-- The node followed by the route of its parent, cut after k nodes.
unfoldable pub climb : Tree → ℕ → ℕ → List ℕ
climb t zero u = []
climb t (suc k) u = let rest = climb t k (t.up u) in u ∷ cond (u == t.root) [] rest

-- The route from u to the root, cut after as many nodes as there are. Where 5 and 7 refuse nothing this cuts none (`cuts_none`).
unfoldable pub route : Tree → ℕ → List ℕ
route t u = climb t t.size u

-- Does the route of u come to the root within k nodes?
unfoldable pub arrives : Tree → ℕ → ℕ → Bool
arrives t zero u = false
arrives t (suc k) u = let rest = arrives t k (t.up u) in (u == t.root) || rest

-- Does u have a route to the root? It has as many nodes as there are at most, where 5 and 7 refuse nothing (`cuts_none`).
unfoldable pub has_route : Tree → ℕ → Bool
has_route t u = arrives t t.size u

-- d(u), the length of the route.
unfoldable pub dist : Tree → ℕ → ℕ
dist t u = total t.rise (route t u)

-- Is u in T(x), x and all below it?
unfoldable pub under : Tree → ℕ → ℕ → Bool
under t x u = has x (route t u)

-- f(u) for u in T(x), and 0 for every other node.
unfoldable pub inside : Tree → ℕ → (ℕ → ℕ) → ℕ → ℕ
inside t x f u = let v = f u in only_if (under t x u) v

-- How many hops z is below x.
unfoldable pub hops : Tree → ℕ → ℕ → ℕ
hops t x z = length (up_to x (route t z))

-- The length of the way up from u to c.
unfoldable pub way_up : Tree → ℕ → ℕ → ℕ
way_up t c u = total t.rise (up_to c (route t u))

-- Where the routes of u and z first meet.
unfoldable pub meet : Tree → ℕ → ℕ → ℕ
meet t u z = first_of (route t z) (route t u)

-- t(u,z), the length of the tree path: up from u to where the routes meet, and down to z.
unfoldable pub apart : Tree → ℕ → ℕ → ℕ
apart t u z = way_up t (meet t u z) u + way_up t (meet t u z) z

-- Does the tree link of x lie on the tree path between a and b?
unfoldable pub on_path : Tree → ℕ → ℕ → ℕ → Bool
on_path t a b x = let c = meet t a b in has x (up_to c (route t a)) || has x (up_to c (route t b))
