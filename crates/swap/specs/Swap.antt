-- Swap links of a node x and their costs, as SCOPE prints them. Assumes nothing.
use Rattle.std.specs.Prelude.{Option, Bool, cond, not, ◌&&◌, ◌||◌, List, [], ◌∷◌, ℕ, ◌+◌, ◌-◌, eqb, leb}
use Rattle.edition.specs.declared.Measure.{Measure}
use Rattle.edition.specs.declared.Measure.TheVariants.{Sum, Incr, Max}
use Rattle.edition.specs.Limits.{whole_search, nearer_first}
use Rattle.edition.specs.Entries.{first_end, second_end}
use Rattle.rows.specs.Count.{sum_to, max_to, some_to}
use Rattle.rows.specs.First.{first_to}
use Rattle.rows.specs.Lists.{sooner, differ}
use Rattle.network.specs.declared.Link.{Link}
use Rattle.network.specs.Network.{Net, in_service}
use Rattle.tree.specs.Tree.{Tree, tree_of, dist, under, inside, hops, apart}

-- z, of a link that crosses x: its end in T(x).
unfoldable pub inner_end : Tree → ℕ → Link → ℕ
inner_end t x l = cond (under t x l.first) l.first l.second

-- z', of a link that crosses x: its other end.
unfoldable pub outer_end : Tree → ℕ → Link → ℕ
outer_end t x l = cond (under t x l.first) l.second l.first

-- The mark of z: 0 where it is the link's first end, 1 where it is the second.
unfoldable pub lower_mark : Tree → ℕ → Link → ℕ
lower_mark t x l = cond (under t x l.first) first_end second_end

-- Link e crosses x: it is in service, is not the tree link of x, and has exactly one end in T(x).
unfoldable pub crosses : Tree → ℕ → ℕ → Link → Bool
crosses t x e l = in_service l && not (eqb e (t.link x)) && differ (under t x l.first) (under t x l.second)

-- z is at most depth hops below x; every z in the whole search.
unfoldable pub within : Tree → ℕ → ℕ → ℕ → Bool
within t depth x z = eqb depth whole_search || leb (hops t x z) depth

-- Link e is a candidate of x: it crosses x, and its lower end is within the depth.
unfoldable pub candidate : Net → ℕ → ℕ → Bool
candidate g x e =
    let t = tree_of g in
    let near = within t g.search.depth x (inner_end t x (g.link e)) in
    crosses t x e (g.link e) && near

-- N(u) = t(u,z) + w + d(z').
unfoldable pub new_dist : Tree → ℕ → Link → ℕ → ℕ
new_dist t x l u = apart t u (inner_end t x l) + l.length + dist t (outer_end t x l)

-- Sum: the N(u) added over T(x). Incr: the largest N(u) - d(u), which is never below 0 (`never_nearer`). Max: the largest N(u).
unfoldable pub cost : Measure → Tree → ℕ → Link → ℕ
cost Sum t x l = sum_to (inside t x (new_dist t x l)) t.size
cost Incr t x l = max_to (inside t x (λ u. new_dist t x l u - dist t u)) t.size
cost Max t x l = max_to (inside t x (new_dist t x l)) t.size

-- What link e costs x in the network.
unfoldable pub cost_of : Measure → Net → ℕ → ℕ → ℕ
cost_of s g x e = cost s (tree_of g) x (g.link e)

-- What decides between candidates, in this order: the cost, under tie rule 1 the incr cost, the link number.
unfoldable pub key_by : ℕ → ℕ → ℕ → ℕ → List ℕ
key_by rule cost incr number = cond (eqb rule nearer_first) (cost ∷ incr ∷ number ∷ []) (cost ∷ number ∷ [])

-- The key of link e under a measure: what it costs x, what it costs x by incr, its number.
unfoldable pub key : Measure → Net → ℕ → ℕ → List ℕ
key s g x e = key_by g.search.rule (cost_of s g x e) (cost_of Incr g x e) e

-- Link e comes before link f: its key has the lower number where the two keys first differ.
unfoldable pub before : Measure → Net → ℕ → ℕ → ℕ → Bool
before s g x e f = sooner (key s g x e) (key s g x f)

-- The best: the candidate of least cost; among equals, under tie rule 1, of least incr cost; then the lowest link number. No candidate
-- comes before it.
unfoldable pub best : Measure → Net → ℕ → Option ℕ
best s g x = first_to (λ e. candidate g x e && not (some_to (λ f. candidate g x f && before s g x f e) g.links)) g.links
