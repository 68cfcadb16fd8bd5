-- What private functions of this crate promise each other. No public promise cites this page. Assumes nothing.
use Rattle.std.specs.Prelude.{◌≡◌, Bool, true, false, cond, not, ◌&&◌, List, ℕ, zero, suc, ◌+◌, ◌*◌, ◌-◌, ◌^◌, ◌<◌, ◌≤◌, max, eqb, ltb, length, get_or, Option}
use Rattle.std.specs.Prelude.{Some, None}
use Rattle.edition.specs.Limits.{node_limit, longest}
use Rattle.rows.specs.Count.{sum_to, only_if}
use Rattle.tree.specs.Tree.{Tree, has_route, dist}
use Rattle.survey.specs.declared.Known.{Known}
use Rattle.survey.specs.Known.{count, weight, deepest, aside, known}
use Rattle.survey.specs.Row.{nodes_in, known_at, past_known}

-- there are no more nodes than memory holds, the root is one, and so is each node's parent
pub record Closed (t : Tree) : Type 0 where
  pub few : t.size ≤ node_limit
  pub root_in : t.root < t.size
  pub up_in : (u : ℕ) → u < t.size → t.up u < t.size

-- every node has a route, and stands at one place of the row's first n: the root at the first, any other after its parent
pub record Order (t : Tree) (row : List ℕ) : Type 0 where
  pub closed : Closed t
  pub room : t.size ≤ length row
  pub place : ℕ → ℕ
  pub node : (i : ℕ) → i < t.size → get_or row i 0 < t.size
  pub here : (i : ℕ) → i < t.size → place (get_or row i 0) ≡ i
  pub within : (u : ℕ) → u < t.size → place u < t.size
  pub there : (u : ℕ) → u < t.size → get_or row (place u) 0 ≡ u
  pub first : place t.root ≡ 0
  pub above : (u : ℕ) → u < t.size → (u ≡ t.root → ⊥) → place (t.up u) < place u
  pub home : (u : ℕ) → u < t.size → has_route t u ≡ true

-- the node that k steps up lead to
unfoldable pub up_by : Tree → ℕ → ℕ → ℕ
up_by t zero u = u
up_by t (suc k) u = t.up (up_by t k u)

-- 1 where u has no place yet
unfoldable pub free : List ℕ → ℕ → ℕ
free seats u = only_if (eqb (get_or seats u 0) 0) 1

-- m nodes have places: place i of the order has node u where the seat of u says i + 1; a seat says 0 where u has no place
pub record Placed (t : Tree) (m : ℕ) (order seats : List ℕ) : Type 0 where
  pub order_room : t.size ≤ length order
  pub seats_room : t.size ≤ length seats
  pub all : m + sum_to (free seats) t.size ≡ t.size
  pub node : (i : ℕ) → i < m → get_or order i 0 < t.size
  pub here : (i : ℕ) → i < m → get_or seats (get_or order i 0) 0 ≡ suc i
  pub within : (u : ℕ) → u < t.size → get_or seats u 0 ≤ m
  pub there : (u p : ℕ) → u < t.size → get_or seats u 0 ≡ suc p → get_or order p 0 ≡ u
  pub first : get_or seats t.root 0 ≡ 1
  pub up-placed : (u : ℕ) → u < t.size → (u ≡ t.root → ⊥) → 0 < get_or seats u 0 → 0 < get_or seats (t.up u) 0
  pub above : (u : ℕ) → u < t.size → (u ≡ t.root → ⊥) → 0 < get_or seats u 0 → get_or seats (t.up u) 0 < get_or seats u 0
  pub home : (u : ℕ) → u < t.size → 0 < get_or seats u 0 → has_route t u ≡ true

-- no node has a place yet
pub record Fresh (t : Tree) (root : ℕ) (order seats : List ℕ) : Type 0 where
  pub closed : Closed t
  pub root_is : t.root ≡ root
  pub order_room : t.size ≤ length order
  pub seats_room : t.size ≤ length seats
  pub none : (u : ℕ) → u < t.size → get_or seats u 0 ≡ 0

-- k nodes from u up have no place, and stand in the row; the next one has a place
pub record Path (t : Tree) (seats : List ℕ) (u k : ℕ) (path : List ℕ) : Type 0 where
  pub on : (j : ℕ) → j < k → get_or path j 0 ≡ up_by t j u
  pub free : (j : ℕ) → j < k → get_or seats (up_by t j u) 0 ≡ 0
  pub end : 0 < get_or seats (up_by t k u) 0

-- a climb from u to the first node that has a place, of fewer steps than there are nodes; none where u has no route
abbrev pub Climbed : Tree → List ℕ → ℕ → Option ℕ → List ℕ → Type 0
Climbed t seats u None path = has_route t u ≡ false
Climbed t seats u (Some k) path = (k < t.size) × Path t seats u k path

-- m nodes have places, and a path of k nodes from u up to one of them stands in the row
pub record Ready (t : Tree) (u k m : ℕ) (order seats path : List ℕ) : Type 0 where
  pub closed : Closed t
  pub placed : Placed t m order seats
  pub ahead : Path t seats u k path
  pub node : u < t.size
  pub room : k ≤ length path

-- the nodes of a path have places now, and no node has lost its own
pub record Settled (t : Tree) (seats : List ℕ) (u m : ℕ) (order after : List ℕ) : Type 0 where
  pub placed : Placed t m order after
  pub now : 0 < get_or after u 0
  pub still : (v : ℕ) → 0 < get_or seats v 0 → 0 < get_or after v 0

-- v is next in a walk down: its parent's number is in the row
pub record Next (t : Tree) (f : ℕ → ℕ) (row : List ℕ) (v : ℕ) : Type 0 where
  pub room : t.size ≤ length row
  pub node : v < t.size
  pub home : has_route t v ≡ true
  pub up-node : t.up v < t.size
  pub up_is : (v ≡ t.root → ⊥) → get_or row (t.up v) 0 ≡ f (t.up v)

-- what the walks over records rely on: an order of the nodes and no more, a root that is its own parent, and lengths of 16 bits
pub record Basis (t : Tree) (order : List ℕ) : Type 0 where
  pub nodes : length order ≡ t.size
  pub ordered : Order t order
  pub top : t.up t.root ≡ t.root
  pub flat : t.rise t.root ≡ 0
  pub short : (v : ℕ) → t.rise v ≤ longest

-- P holds of the record of each of n nodes, and past them a row is as another was
pub record Held (n : ℕ) (before : List ℕ) (P : ℕ → Known → Type 0) (row : List ℕ) : Type 0 where
  pub room : n ≤ nodes_in before
  pub same : length row ≡ length before
  pub past : past_known n row ≡ past_known n before
  pub each : (u : ℕ) → u < n → P u (known_at row u)

-- P holds of the nodes whose place is below i, and Q of the others
pub record Split (P Q : ℕ → Known → Type 0) (place : ℕ → ℕ) (i u : ℕ) (k : Known) : Type 0 where
  pub below : place u < i → P u k
  pub above : i ≤ place u → Q u k

-- v is next in a walk down: its parent's distance is in the parent's record
pub record Under (t : Tree) (row : List ℕ) (v : ℕ) : Type 0 where
  pub few : t.size ≤ node_limit
  pub room : t.size ≤ nodes_in row
  pub node : v < t.size
  pub home : has_route t v ≡ true
  pub up-node : t.up v < t.size
  pub up_is : (v ≡ t.root → ⊥) → (known_at row (t.up v)).near ≡ dist t (t.up v)

-- after the walk down: what a node knows of itself
pub record Begun (t : Tree) (u : ℕ) (k : Known) : Type 0 where
  pub up_is : k.up ≡ t.up u
  pub near_is : k.near ≡ dist t u
  pub count-is : k.count ≡ 1
  pub base-is : k.base ≡ dist t u
  pub turn_is : k.turn ≡ 0
  pub deep_is : k.deep ≡ dist t u
  pub beside-is : k.beside ≡ 0

-- of the two largest of some numbers the lower one, once a number is added
unfoldable pub lower : ℕ → ℕ → ℕ → ℕ
lower first next new = cond (ltb first new) first (max next new)

-- the largest of some numbers without one that is d, from the two largest
unfoldable pub without : ℕ → ℕ → ℕ → ℕ
without first next d = cond (eqb d first) next first

-- a parent's record once a child's is added to it
unfoldable pub with_child : Known → Known → Known
with_child p v =
    record {
      up = p.up;
      near = p.near;
      count = p.count + v.count;
      base = p.base + v.base;
      turn = p.turn;
      deep = max p.deep v.deep;
      beside = lower p.deep p.beside v.deep;
    }

-- a node's record can be added to its parent's
pub record Adds (row : List ℕ) (x : ℕ) : Type 0 where
  pub node : x < nodes_in row
  pub up-node : (known_at row x).up < nodes_in row
  pub count_fits : (known_at row (known_at row x).up).count + (known_at row x).count < 2 ^ 64
  pub base-fits : (known_at row (known_at row x).up).base + (known_at row x).base < 2 ^ 64

-- after the walk up: sums and largest values of T(x), and what is beside each child, from the two largest
pub record Summed (t : Tree) (u : ℕ) (k : Known) : Type 0 where
  pub up_is : k.up ≡ t.up u
  pub near_is : k.near ≡ dist t u
  pub count-is : k.count ≡ count t u
  pub base-is : k.base ≡ weight t u
  pub turn_is : k.turn ≡ 0
  pub deep_is : k.deep ≡ deepest t u
  pub rest-is : (c : ℕ) → c < t.size → eqb c t.root ≡ false → t.up c ≡ u → without k.deep k.beside (deepest t c) ≡ aside t c

-- a record with what is beside the node, from its parent's; and one with nothing beside
unfoldable pub with_aside : Known → ℕ → Known
with_aside v d =
    record {
      up = v.up;
      near = v.near;
      count = v.count;
      base = v.base;
      turn = v.turn;
      deep = v.deep;
      beside = d;
    }

unfoldable pub with_beside : Known → Known → Known
with_beside v p = with_aside v (without p.deep p.beside v.deep)

-- after the second walk up: all but the two numbers by which a sum is known
pub record Sided (t : Tree) (u : ℕ) (k : Known) : Type 0 where
  pub up_is : k.up ≡ t.up u
  pub near_is : k.near ≡ dist t u
  pub count-is : k.count ≡ count t u
  pub base-is : k.base ≡ weight t u
  pub turn_is : k.turn ≡ 0
  pub deep_is : k.deep ≡ deepest t u
  pub beside-is : k.beside ≡ aside t u

-- the turn of a node from its parent's record, and its record with that and its base
unfoldable pub turned : Known → Known → ℕ
turned v p = p.turn + 2 * (v.count * (v.near - p.near))

unfoldable pub with_turn : Known → Known → Known
with_turn v p =
    record {
      up = v.up;
      near = v.near;
      count = v.count;
      base = v.base + turned v p - 2 * (v.count * v.near);
      turn = turned v p;
      deep = v.deep;
      beside = v.beside;
    }

-- none of these numbers wraps
pub record Turns (v p : Known) : Type 0 where
  pub near_low : p.near ≤ v.near
  pub more-fits : 2 * (v.count * (v.near - p.near)) < 2 ^ 64
  pub turn-fits : p.turn + 2 * (v.count * (v.near - p.near)) < 2 ^ 64
  pub less_fits : 2 * (v.count * v.near) < 2 ^ 64
  pub sum_fits : v.base + turned v p < 2 ^ 64
  pub enough : 2 * (v.count * v.near) ≤ v.base + turned v p

-- after the last walk, down: all that is known
pub record Told (t : Tree) (u : ℕ) (k : Known) : Type 0 where
  pub is : k ≡ known t u

-- is y a child of p?
unfoldable pub child : Tree → ℕ → ℕ → Bool
child t p y = not (eqb y t.root) && eqb (t.up y) p
