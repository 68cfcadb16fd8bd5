-- What private functions of this crate promise each other. No public promise cites this page. Assumes nothing.
use Rattle.std.specs.Prelude.{Result, Ok, Err, ◌≡◌, true, false, cond, List, ℕ, ◌+◌, ◌*◌, ◌<◌, ◌≤◌, eqb, length}
use Rattle.edition.specs.declared.Refusal.{Refusal}
use Rattle.edition.specs.Refusals.{taken}
use Rattle.edition.specs.declared.Why.TheVariants.{NoSwap}
use Rattle.edition.specs.Entries.{first_end, swap_state}
use Rattle.edition.specs.Limits.{node_limit, longest}
use Rattle.network.specs.declared.Link.{Link}
use Rattle.network.specs.Network.{Net}
use Rattle.tree.specs.declared.Climb.{Climb}
use Rattle.tree.specs.Tree.{Tree, tree_of, route, under, way_up}
use Rattle.tree.specs.Work.{Along}
use Rattle.sound.specs.Sound.{net_verdict}
use Rattle.sound.specs.Surveyed.{Surveyed}
use Rattle.swap.specs.Entry.{entry}
use Rattle.forward.specs.declared.Ask.{Ask}
use Rattle.forward.specs.declared.Way.{Way}
use Rattle.forward.specs.declared.Over.{Over}
use Rattle.forward.specs.declared.Applies.{Applies}
use Rattle.forward.specs.declared.Applies.TheVariants.{Detour}
use Rattle.forward.specs.Forward.{cut_off, around, listed}
use Rattle.forward.specs.Answers.{way, row_of}

-- a node of a network that is taken
pub record Node (g : Net) (u : ℕ) : Type 0 where
  pub is_taken : net_verdict g ≡ taken
  pub low : u < g.nodes

-- a node, and one on its route
pub record Upward (g : Net) (x u : ℕ) : Type 0 where
  pub node : Node g u
  pub on : under (tree_of g) x u ≡ true

-- a climb from u that has come to x, or to the root where x is not on the route
pub record Reached (t : Tree) (x u : ℕ) (c : Climb) : Type 0 where
  pub along : Along t u c
  pub here : c.node ≡ cond (under t x u) x t.root
  pub few : c.hops < node_limit
  pub small : c.dist ≤ node_limit * longest

-- the way over a link: from the end that a mark names to the other
unfoldable pub over_by : Link → ℕ → Over
over_by l lower =
    record {
      from = cond (eqb lower first_end) l.first l.second;
      to = cond (eqb lower first_end) l.second l.first;
      length = l.length;
    }

-- the tree link of x fails, u and z are in T(x), and z' is not
pub record Around (g : Net) (x u z z' : ℕ) : Type 0 where
  pub start : Upward g x u
  pub down : Upward g x z
  pub rest : Node g z'
  pub out : under (tree_of g) x z' ≡ false
  pub below : x ≡ (tree_of g).root → ⊥

-- three climbs that count nothing large
pub record Small (up down rest : Climb) : Type 0 where
  pub up-few : up.hops < node_limit
  pub down-few : down.hops < node_limit
  pub rest-few : rest.hops < node_limit
  pub up_small : up.dist ≤ node_limit * longest
  pub down-small : down.dist ≤ node_limit * longest
  pub rest-small : rest.dist ≤ node_limit * longest

-- what they add up to, with a link from the second to the third
unfoldable pub added : Climb → Climb → Climb → ℕ → Way
added up down rest w =
    record {
      nodes = up.hops + 1 + down.hops + rest.hops + 1;
      length = up.dist + down.dist + w + rest.dist;
    }

-- how many nodes the route of u has, and how long it is
unfoldable pub route_way : Tree → ℕ → Way
route_way t u = record { nodes = length (route t u); length = way_up t t.root u }

-- how many nodes the way around has, and how long it is with a link of this length from z to z'
unfoldable pub around_way : Tree → ℕ → ℕ → ℕ → ℕ → ℕ → Way
around_way t x z z' w u =
    record {
      nodes = length (around t x z z' u);
      length = way_up t x u + way_up t x z + w + way_up t t.root z';
    }

-- what is asked of a network that is surveyed, with a start that is cut off
pub record Cut (g : Net) (survey : List ℕ) (a : Ask) : Type 0 where
  pub surveyed : Surveyed g survey
  pub start-low : a.start < g.nodes
  pub failed_low : a.failed < g.nodes
  pub below : a.failed ≡ g.search.root → ⊥
  pub cut : cut_off g a ≡ true

-- 17, or the detour
unfoldable pub cut_applies : Net → Ask → Result Applies Refusal
cut_applies g a =
    cond (eqb (entry g a.failed).state swap_state) (Ok (Detour (way g a))) (Err (record { why = NoSwap; place = a.failed }))

-- and the row for it
unfoldable pub cut_row : Net → Ask → List ℕ → List ℕ
cut_row g a row = cond (eqb (entry g a.failed).state swap_state) (row_of (listed g a) row) row
