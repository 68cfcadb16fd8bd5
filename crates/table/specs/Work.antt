-- What private functions of this crate promise each other. No public promise cites this page. Assumes nothing.
use Rattle.std.specs.Prelude.{None, Option, Some, slice_index_or}
use Rattle.std.specs.Prelude.{◌≡◌, ℕ, suc, ◌+◌, ◌-◌, ◌*◌, ◌<◌, ◌≤◌, Bool, true, false, cond, ◌||◌, List, [], ◌∷◌, length, ◌==◌, ◌≢◌, nat_le, slice_index}
use Rattle.edition.specs.declared.Search.{Search}
use Rattle.edition.specs.Limits.{node_limit, whole_search, longest, no_node}
use Rattle.edition.specs.Entries.{first_end, second_end, root_state, bridge_state, blank}
use Rattle.edition.specs.declared.Measure.TheVariants.{Sum, Incr, Max}
use Rattle.network.specs.declared.Link.{Link}
use Rattle.network.specs.Network.{Net, link_in, in_service}
use Rattle.tree.specs.Tree.{Tree, tree_of, route, dist, under}
use Rattle.table.specs.declared.Costs.{Costs}
use Rattle.sound.specs.Surveyed.{Surveyed}
use Rattle.swap.specs.Swap.{inner_end, lower_mark, crosses, cost_of}
use Rattle.survey.specs.Known.{count, turn as turn_of}
use Rattle.survey.specs.Row.{nodes_in, known_at}
use Rattle.swap.specs.Work.{through, reach}
use Rattle.tree.specs.Work.{Along}
use Rattle.swap.specs.Entry.{entry}
use Rattle.table.specs.declared.Standing.{Standing}
use Rattle.table.specs.Prefix.{first_links, standing_by}
use Rattle.table.specs.declared.Side.{Side}
use Rattle.table.specs.declared.Bid.{Bid}
use Rattle.entries.specs.Row.{entries_in, entry_at, entry_row, standing, past_entries}
use Rattle.table.specs.Table.{is_asked}

-- a row of entries that holds the record f of each node, and past them what another row holds
pub record Entries (n : ℕ) (f : ℕ → List ℕ) (before after : List ℕ) : Type 0 where
  pub size : length after ≡ length before
  pub each : (x : ℕ) → x < n → standing after x ≡ f x
  pub rest : past_entries n after ≡ past_entries n before

-- the first node of a list that is asked for
unfoldable pub anchor_in : List ℕ → List ℕ → Option ℕ
anchor_in asked [] = None
anchor_in asked (u ∷ r) = let rest = anchor_in asked r in cond (is_asked asked u) (Some u) rest

-- the anchor of u: that of its route
unfoldable pub anchor : Tree → List ℕ → ℕ → Option ℕ
anchor t asked u = anchor_in asked (route t u)

-- the two parts of a rank: so many times how many nodes are below, and the number plus 1
abbrev pub rank_step : ℕ
rank_step = 65536

-- the rank of node x with c nodes below it: the more, the higher, and no two nodes have one
unfoldable pub rank_of : ℕ → ℕ → ℕ
rank_of c x = c * rank_step + suc x

-- the rank of an anchor; that of none is above all
unfoldable pub rank_by : Tree → Option ℕ → ℕ
rank_by t None = no_node * rank_step
rank_by t (Some x) = rank_of (count t x) x

-- the rank of u: that of its anchor
unfoldable pub rank : Tree → List ℕ → ℕ → ℕ
rank t asked u = rank_by t (anchor t asked u)

-- a row holds the rank of each node
pub record Ranked (t : Tree) (asked row : List ℕ) : Type 0 where
  pub room : t.size ≤ length row
  pub each : (u : ℕ) → u < t.size → slice_index row u ≡ rank t asked u

-- a survey has a record of x, and a count in it that is no more than there can be nodes
pub record Weighed (survey : List ℕ) (x : ℕ) : Type 0 where
  pub there : x < nodes_in survey
  pub low : x < node_limit
  pub few : (known_at survey x).count ≤ node_limit

-- the rank of x where x is asked for or the root, 0 elsewhere
unfoldable pub first_rank : List ℕ → List ℕ → ℕ → ℕ → ℕ
first_rank survey asked root x =
    let other = cond (x == root) (no_node * rank_step) 0 in
    cond (is_asked asked x) (rank_of (known_at survey x).count x) other

-- every number is 0 or the rank; it is 0 at no node asked for, and not at the root
pub record Partly (g : Net) (asked survey row : List ℕ) : Type 0 where
  pub surveyed : Surveyed g survey
  pub room : g.nodes ≤ length row
  pub known : (x : ℕ) → x < g.nodes → (slice_index row x ≢ 0) → slice_index row x ≡ rank (tree_of g) asked x
  pub free : (x : ℕ) → x < g.nodes → slice_index row x ≡ 0 → is_asked asked x ≡ false
  pub top : slice_index_or row g.search.root 0 ≡ 0 → ⊥

-- a node of such a network
pub record Upward (g : Net) (asked survey row : List ℕ) (u : ℕ) : Type 0 where
  pub partly : Partly g asked survey row
  pub low : u < g.nodes

-- u has its rank, and every node that had one
pub record Joined (g : Net) (asked survey : List ℕ) (u : ℕ) (row row' : List ℕ) : Type 0 where
  pub partly : Partly g asked survey row'
  pub has : slice_index_or row' u 0 ≡ 0 → ⊥
  pub still : (v : ℕ) → (slice_index row v ≢ 0) → slice_index row' v ≢ 0

-- a surveyed network of n nodes, and a row with room for their ranks
pub record Ranking (g : Net) (survey : List ℕ) (root n : ℕ) (row : List ℕ) : Type 0 where
  pub surveyed : Surveyed g survey
  pub root_is : g.search.root ≡ root
  pub nodes-is : g.nodes ≡ n
  pub room : n ≤ length row

-- a climb from z, with its distance, its turn, and the largest t(u,z) over the nodes below where it is
pub record Carries (t : Tree) (z : ℕ) (s : Side) : Type 0 where
  pub along : Along t z s.climb
  pub from_is : s.from ≡ z
  pub near_is : s.near ≡ dist t z
  pub turn_is : s.turn ≡ turn_of t z
  pub reach-is : s.reach ≡ reach t s.climb.node z

-- link e crosses the node where a climb is, from its lower end on, and K is the way through it
pub record Crossing (g : Net) (e : ℕ) (s : Side) (k : ℕ) : Type 0 where
  pub there : e < g.links
  pub cross : crosses (tree_of g) s.climb.node e (g.link e) ≡ true
  pub low : inner_end (tree_of g) s.climb.node (g.link e) ≡ s.from
  pub marked : lower_mark (tree_of g) s.climb.node (g.link e) ≡ s.lower
  pub through-is : k ≡ through (tree_of g) (g.link e)
  pub long : (g.link e).length ≤ longest

-- what a link costs a node
pub record Priced (g : Net) (x e : ℕ) (c : Costs) : Type 0 where
  pub sum_is : c.sum ≡ cost_of Sum g x e
  pub incr_is : c.incr ≡ cost_of Incr g x e
  pub max-is : c.max ≡ cost_of Max g x e

-- a node of a surveyed network
pub record Starts (g : Net) (survey : List ℕ) (z : ℕ) : Type 0 where
  pub surveyed : Surveyed g survey
  pub low : z < g.nodes

-- a row of links that holds those of a network; its ends are nodes, and no length is longer than one can be, also where there is no link
pub record Reads (g : Net) (links : List ℕ) : Type 0 where
  pub link-is : (b : ℕ) → link_in links b ≡ g.link b
  pub first-low : (b : ℕ) → (link_in links b).first < g.nodes
  pub second_low : (b : ℕ) → (link_in links b).second < g.nodes
  pub long : (b : ℕ) → (link_in links b).length ≤ longest

-- what link b costs x by incr, where it crosses x: the way through it less twice the distance of x
unfoldable pub incr_by : Net → ℕ → ℕ → ℕ
incr_by g x b = through (tree_of g) (g.link b) - 2 * dist (tree_of g) x

-- a climb that begins there
pub record Started (g : Net) (z lower : ℕ) (s : Side) : Type 0 where
  pub carries : Carries (tree_of g) z s
  pub here : s.climb.node ≡ z
  pub lower-is : s.lower ≡ lower

-- a climb that is not yet at the root
pub record Stepping (g : Net) (survey : List ℕ) (s : Side) : Type 0 where
  pub surveyed : Surveyed g survey
  pub carries : Carries (tree_of g) s.from s
  pub low : s.from < g.nodes
  pub below : s.climb.node ≡ g.search.root → ⊥

-- the same climb one step further up
pub record Stepped (g : Net) (s r : Side) : Type 0 where
  pub carries : Carries (tree_of g) s.from r
  pub here : r.climb.node ≡ (tree_of g).up s.climb.node
  pub from_is : r.from ≡ s.from
  pub lower-is : r.lower ≡ s.lower

-- a climb at a node that link e crosses
pub record Costing (g : Net) (survey : List ℕ) (e k : ℕ) (s : Side) : Type 0 where
  pub stepping : Stepping g survey s
  pub crossing : Crossing g e s k

-- what a search goes by: a survey, the ranks, and a row with room for the entries
pub record Searching (g : Net) (asked survey ranks entries : List ℕ) : Type 0 where
  pub surveyed : Surveyed g survey
  pub ranked : Ranked (tree_of g) asked ranks
  pub room : g.nodes ≤ entries_in entries

-- in a search, a climb at a node that link e crosses
pub record Offering (g : Net) (search : Search) (links asked survey ranks entries : List ℕ) (e k : ℕ) (s : Side) : Type 0 where
  pub searching : Searching g asked survey ranks entries
  pub reads : Reads g links
  pub search_is : g.search ≡ search
  pub costing : Costing g survey e k s

-- what is offered to the node where a climb is, of a link with these costs
unfoldable pub bid_of : Side → Costs → Bid
bid_of s c = record { node = s.climb.node; hops = s.climb.hops; lower = s.lower; costs = c }

-- in a search, link e offered to the node where a climb is, which is asked for
pub record Bidding (g : Net) (search : Search) (links asked survey ranks entries : List ℕ) (e k : ℕ) (s : Side) (bid : Bid) : Type 0 where
  pub offering : Offering g search links asked survey ranks entries e k s
  pub priced : Priced g s.climb.node e bid.costs
  pub on : is_asked asked s.climb.node ≡ true
  pub is : bid ≡ bid_of s bid.costs

-- what the swap links of the node that a bid is for cost it by incr, where that decides, by a row of entries
unfoldable pub standing_in : Net → Search → List ℕ → Bid → Standing
standing_in g search row bid = standing_by search.rule (incr_by g bid.node) (entry_at row bid.node) bid.costs

-- the record of x after k links: worked out where x is asked for, as it stood elsewhere
unfoldable pub want : Net → List ℕ → List ℕ → ℕ → ℕ → List ℕ
want g asked before k x = cond (is_asked asked x) (entry_row (entry (first_links g k) x)) (standing before x)

-- link e offered at x: the record of x, and no other, goes on from e links to one more
pub record OfferedAt (g : Net) (n : ℕ) (asked : List ℕ) (e x : ℕ) (row row' : List ℕ) : Type 0 where
  pub goes_on :
      (before : List ℕ) (f : ℕ → List ℕ)
      → Entries n f before row → f x ≡ want g asked before e x
      → Entries n (λ y. cond (x == y) (want g asked before (suc e) y) (f y)) before row'

-- what a test says of offering link e at x: yes only where x is asked for, and where no, the record of x goes on as it stands
pub record Worth (g : Net) (n : ℕ) (asked : List ℕ) (e x : ℕ) (row : List ℕ) (said : Bool) : Type 0 where
  pub yes : said ≡ true → is_asked asked x ≡ true
  pub no : said ≡ false → OfferedAt g n asked e x row row

-- hops within a depth
unfoldable pub within_by : ℕ → ℕ → Bool
within_by depth h = depth == whole_search || nat_le h depth

-- link e is in service and no parent link of its ends, and K is the way through it
pub record Spare (g : Net) (e k : ℕ) : Type 0 where
  pub there : e < g.links
  pub serves : in_service (g.link e) ≡ true
  pub not_first : g.parent (g.link e).first ≡ e → ⊥
  pub not_second : g.parent (g.link e).second ≡ e → ⊥
  pub through-is : k ≡ through (tree_of g) (g.link e)
  pub long : (g.link e).length ≤ longest

-- a row of entries goes on from e links to one more
pub record Linked (g : Net) (n : ℕ) (asked : List ℕ) (e : ℕ) (row row' : List ℕ) : Type 0 where
  pub goes_on : (before : List ℕ) → Entries n (want g asked before e) before row → Entries n (want g asked before (suc e)) before row'

-- two climbs at the ends of link e
pub record Starting (g : Net) (e : ℕ) (a b : Side) : Type 0 where
  pub one : Carries (tree_of g) (g.link e).first a
  pub one_at : a.climb.node ≡ (g.link e).first
  pub one_mark : a.lower ≡ first_end
  pub two : Carries (tree_of g) (g.link e).second b
  pub two_at : b.climb.node ≡ (g.link e).second
  pub two_mark : b.lower ≡ second_end

-- in a search, two climbs at the ends of a spare link
pub record Climbing (g : Net) (search : Search) (links asked survey ranks entries : List ℕ) (e k : ℕ) (a b : Side) : Type 0 where
  pub searching : Searching g asked survey ranks entries
  pub reads : Reads g links
  pub search_is : g.search ≡ search
  pub spare : Spare g e k
  pub starting : Starting g e a b

-- the record of x before any link: the root's or a bridge's where x is asked for, as it stood elsewhere
unfoldable pub start_at : ℕ → List ℕ → List ℕ → ℕ → List ℕ
start_at root asked before x =
    let first = blank (cond (x == root) root_state bridge_state) in
    cond (is_asked asked x) (entry_row first) (standing before x)

-- a row of entries goes on from no links to k
pub record LinkedTo (g : Net) (n : ℕ) (asked : List ℕ) (k : ℕ) (row row' : List ℕ) : Type 0 where
  pub size : length row' ≡ length row
  pub goes_on : (before : List ℕ) → Entries n (want g asked before 0) before row → Entries n (want g asked before k) before row'

-- what the search for the entry of x alone goes by: a survey, and a row in which the nodes of T(x), and no others, have the number
-- that x has
pub record Telling (g : Net) (x : ℕ) (survey row : List ℕ) : Type 0 where
  pub surveyed : Surveyed g survey
  pub low : x < g.nodes
  pub room : g.nodes ≤ length row
  pub each : (u : ℕ) → u < g.nodes → (slice_index row u == slice_index row x) ≡ under (tree_of g) x u

-- a climb that is at x or below it
pub record Rising (g : Net) (survey : List ℕ) (x : ℕ) (s : Side) : Type 0 where
  pub surveyed : Surveyed g survey
  pub carries : Carries (tree_of g) s.from s
  pub low : s.from < g.nodes
  pub over : under (tree_of g) x s.climb.node ≡ true

-- the same climb no less far up
pub record Risen (g : Net) (survey : List ℕ) (x : ℕ) (s r : Side) : Type 0 where
  pub rising : Rising g survey x r
  pub from_is : r.from ≡ s.from
  pub lower-is : r.lower ≡ s.lower

-- link e, which is l, crosses x, and its first end is in T(x) or not
pub record Crossed (g : Net) (search : Search) (links survey : List ℕ) (x e : ℕ) (l : Link) (first : Bool) : Type 0 where
  pub surveyed : Surveyed g survey
  pub reads : Reads g links
  pub search_is : g.search ≡ search
  pub low : x < g.nodes
  pub there : e < g.links
  pub link-is : g.link e ≡ l
  pub cross : crosses (tree_of g) x e (g.link e) ≡ true
  pub first-is : first ≡ under (tree_of g) x l.first
  pub long : l.length ≤ longest
