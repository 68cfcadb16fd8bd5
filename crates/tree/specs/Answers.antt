-- What is asked of the tree alone: a climbing cursor, the distances of all nodes, the route of one, the tree distance of
-- two. None of these checks the network beyond what it needs: n within the limit, a node that has a route, room. Assumes nothing.
use Rattle.std.specs.Prelude.{Err, Ok, Result, ℕ, ◌+◌, ◌%◌, ◌^◌, Bool, not, ◌&&◌, List, [], ◌∷◌, ◌++◌, length, drop, nat_lt}
use Rattle.edition.specs.Refusals.{Verdict, if_taken}
use Rattle.edition.specs.declared.Why.TheVariants.{NodeCount, NoRoute, NoRoom}
use Rattle.edition.specs.Limits.{memory_limits}
use Rattle.rows.specs.Count.{row_with}
use Rattle.rows.specs.First.{refuse_if, firstly}
use Rattle.network.specs.Network.{Net}
use Rattle.network.specs.Records.{bad_nodes}
use Rattle.tree.specs.declared.Climb.{Climb}
use Rattle.edition.specs.declared.Refusal.{Refusal}
use Rattle.tree.specs.Tree.{Tree, tree_of, route, has_route, dist, meet, apart}

-- A climb that begins at u.
unfoldable pub begun : ℕ → Climb
begun u = record { node = u; hops = 0; dist = 0 }

-- One step up: the parent, one hop more, and the length of the link to it more, in 64 bits.
unfoldable pub stepped : Tree → Climb → Climb
stepped t c =
    record {
      node = t.up c.node;
      hops = (c.hops + 1) % 2 ^ 64;
      dist = (c.dist + t.rise c.node) % 2 ^ 64;
    }

-- 1, then 10 where fewer numbers are lent than there are nodes.
unfoldable pub room_verdict : ℕ → ℕ → Verdict
room_verdict n room =
    firstly (refuse_if (bad_nodes memory_limits n) NodeCount 0 ∷ refuse_if (nat_lt room n) NoRoom 0 ∷ [])

-- The same of a network and a lent row.
abbrev pub row_verdict : Net → List ℕ → Verdict
row_verdict g row = room_verdict g.nodes (length row)

-- The row with d(u) of every node.
unfoldable pub distance_row : Net → List ℕ → List ℕ
distance_row g row = let new = row_with (dist (tree_of g)) g.nodes row in if_taken (row_verdict g row) new row

-- Is u no node, or without a route?
unfoldable pub lost : Net → ℕ → Bool
lost g u = not (nat_lt u g.nodes && has_route (tree_of g) u)

-- 1, then 8 at u where u is no node or has no route.
unfoldable pub way_verdict : Net → ℕ → Verdict
way_verdict g u =
    firstly
    (refuse_if (bad_nodes memory_limits g.nodes) NodeCount 0 ∷
    refuse_if (lost g u) NoRoute u ∷ [])

-- A number where the verdict is taken, else the refusal.
abbrev pub answer_if : Verdict → ℕ → Result ℕ Refusal
answer_if (Ok _) d = Ok d
answer_if (Err r) d = Err r

-- The route of u: 1, 8, then 10 where the row cannot hold it.
unfoldable pub route_verdict : Net → ℕ → List ℕ → Verdict
route_verdict g u row =
    firstly (way_verdict g u ∷ refuse_if (nat_lt (length row) (length (route (tree_of g) u))) NoRoom 0 ∷ [])

-- The row with the route of u at its beginning.
unfoldable pub route_row : Net → ℕ → List ℕ → List ℕ
route_row g u row =
    let way = route (tree_of g) u in
    let new = way ++ drop (length way) row in
    if_taken (route_verdict g u row) new row

-- The length of the route of u.
unfoldable pub route_answer : Net → ℕ → List ℕ → Result ℕ Refusal
route_answer g u row = let d = dist (tree_of g) u in answer_if (route_verdict g u row) d

-- Of two nodes: 1, 8 at u, 8 at z.
unfoldable pub ways_verdict : Net → ℕ → ℕ → Verdict
ways_verdict g u z = firstly (way_verdict g u ∷ way_verdict g z ∷ [])

-- Where the routes of u and z first meet.
unfoldable pub meet_answer : Net → ℕ → ℕ → Result ℕ Refusal
meet_answer g u z = let c = meet (tree_of g) u z in answer_if (ways_verdict g u z) c

-- t(u,z).
unfoldable pub apart_answer : Net → ℕ → ℕ → Result ℕ Refusal
apart_answer g u z = let d = apart (tree_of g) u z in answer_if (ways_verdict g u z) d
