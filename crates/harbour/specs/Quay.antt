-- The Quay case: two rows of three nodes, every link of length 1. Node 1 has two candidates that cost as much under sum and under max, and
-- not under incr: link 3, whose lower end is node 5, two hops below it, and link 5, whose lower end is node 1 itself. The numbers are
-- worked out by hand (docs/QUAY.md). Assumes nothing.
use Rattle.std.specs.Prelude.{List, [], ◌∷◌, ◌++◌, ℕ}
use Rattle.edition.specs.declared.Measure.TheVariants.{Sum, Incr, Max}
use Rattle.edition.specs.Limits.{no_link, no_node, whole_search, lowest_number, nearer_first}
use Rattle.harbour.specs.Asking.{Port, nine, room, Case, ◌gives◌, entry_at, table_of, map_of, change, list_of}

-- Links 0 to 6: two ends, length, service mark. Link 5 has this mark and length.
unfoldable pub links_with : ℕ → ℕ → List ℕ
links_with mark length =
    0 ∷ 1 ∷ 1 ∷ 1 ∷
    1 ∷ 2 ∷ 1 ∷ 1 ∷
    3 ∷ 4 ∷ 1 ∷ 1 ∷
    4 ∷ 5 ∷ 1 ∷ 1 ∷
    0 ∷ 3 ∷ 1 ∷ 1 ∷
    1 ∷ 4 ∷ length ∷ mark ∷
    2 ∷ 5 ∷ 1 ∷ 1 ∷ []

-- The links of the case: every one in service and of length 1.
unfoldable pub links : List ℕ
links = links_with 1 1

-- The parent links of nodes 0 to 5.
unfoldable pub parents : List ℕ
parents = no_link ∷ 0 ∷ 1 ∷ 4 ∷ 2 ∷ 6 ∷ []

-- The Quay network under a tie rule, at a depth, with a row of links.
unfoldable pub quay_with : ℕ → ℕ → List ℕ → Port
quay_with rule depth row = record { links = row; parents = parents; search = record { root = 0; depth = depth; rule = rule } }

-- The Quay network under a tie rule, at a depth.
unfoldable pub quay : ℕ → ℕ → Port
quay rule depth = quay_with rule depth links

-- The whole search by the lowest number.
unfoldable pub by_number : Port
by_number = quay lowest_number whole_search

-- The whole search by the lower incr cost.
unfoldable pub by_nearness : Port
by_nearness = quay nearer_first whole_search

-- The root's entry.
unfoldable pub root_entry : List ℕ
root_entry = 0 ∷ no_link ∷ no_link ∷ no_link ∷ 0 ∷ 0 ∷ 0 ∷ 0 ∷ 0 ∷ 0 ∷ []

-- The entry of node 1 by the lowest number: link 3 under sum and max, link 5 under incr.
unfoldable pub one_by_number : List ℕ
one_by_number = 1 ∷ 3 ∷ 5 ∷ 3 ∷ 12 ∷ 2 ∷ 5 ∷ 1 ∷ 0 ∷ 1 ∷ []

-- The entry of node 1 by the lower incr cost: link 5 under every measure.
unfoldable pub one_by_nearness : List ℕ
one_by_nearness = 1 ∷ 5 ∷ 5 ∷ 5 ∷ 12 ∷ 2 ∷ 5 ∷ 0 ∷ 0 ∷ 0 ∷ []

-- The entry of node 2.
unfoldable pub two : List ℕ
two = 1 ∷ 3 ∷ 3 ∷ 3 ∷ 7 ∷ 2 ∷ 4 ∷ 1 ∷ 1 ∷ 1 ∷ []

-- The entry of node 3.
unfoldable pub three : List ℕ
three = 1 ∷ 5 ∷ 5 ∷ 5 ∷ 5 ∷ 2 ∷ 3 ∷ 1 ∷ 1 ∷ 1 ∷ []

-- The entry of node 4.
unfoldable pub four : List ℕ
four = 1 ∷ 5 ∷ 5 ∷ 5 ∷ 2 ∷ 0 ∷ 2 ∷ 1 ∷ 1 ∷ 1 ∷ []

-- The entry of node 5.
unfoldable pub five : List ℕ
five = 1 ∷ 3 ∷ 3 ∷ 3 ∷ 3 ∷ 0 ∷ 3 ∷ 1 ∷ 1 ∷ 1 ∷ []

-- An entry in state 2.
unfoldable pub none : List ℕ
none = 2 ∷ no_link ∷ no_link ∷ no_link ∷ 0 ∷ 0 ∷ 0 ∷ 0 ∷ 0 ∷ 0 ∷ []

-- A table from the entry of node 1: that of every other node is the same under both rules.
unfoldable pub table_with : List ℕ → List ℕ
table_with one = root_entry ++ one ++ two ++ three ++ four ++ five

-- The entry of node 1 where link 5 has length 2: no costs are equal.
unfoldable pub one_longer : List ℕ
one_longer = 1 ∷ 3 ∷ 5 ∷ 3 ∷ 12 ∷ 3 ∷ 5 ∷ 1 ∷ 0 ∷ 1 ∷ []

-- The entry of node 3 there.
unfoldable pub three_longer : List ℕ
three_longer = 1 ∷ 5 ∷ 5 ∷ 5 ∷ 7 ∷ 3 ∷ 4 ∷ 1 ∷ 1 ∷ 1 ∷ []

-- The entry of node 4 there.
unfoldable pub four_longer : List ℕ
four_longer = 1 ∷ 5 ∷ 5 ∷ 5 ∷ 3 ∷ 1 ∷ 3 ∷ 1 ∷ 1 ∷ 1 ∷ []

-- The table where link 5 has length 2, under either rule.
unfoldable pub longer : List ℕ
longer = root_entry ++ one_longer ++ two ++ three_longer ++ four_longer ++ five

-- The entry of node 3 where link 5 has length 3: links 3 and 5 cost as much under every measure, and link 3 has the lower number.
unfoldable pub three_longest : List ℕ
three_longest = 1 ∷ 3 ∷ 3 ∷ 3 ∷ 9 ∷ 4 ∷ 5 ∷ 0 ∷ 0 ∷ 0 ∷ []

-- The entry of node 4 there, for the same reason.
unfoldable pub four_longest : List ℕ
four_longest = 1 ∷ 3 ∷ 3 ∷ 3 ∷ 4 ∷ 2 ∷ 4 ∷ 0 ∷ 0 ∷ 0 ∷ []

-- The entry of node 1 where link 5 is withdrawn.
unfoldable pub one_without : List ℕ
one_without = 1 ∷ 3 ∷ 3 ∷ 3 ∷ 12 ∷ 4 ∷ 5 ∷ 1 ∷ 1 ∷ 1 ∷ []

-- The row of links where link 6 ends at no node.
unfoldable pub links_loose : List ℕ
links_loose =
    0 ∷ 1 ∷ 1 ∷ 1 ∷
    1 ∷ 2 ∷ 1 ∷ 1 ∷
    3 ∷ 4 ∷ 1 ∷ 1 ∷
    4 ∷ 5 ∷ 1 ∷ 1 ∷
    0 ∷ 3 ∷ 1 ∷ 1 ∷
    1 ∷ 4 ∷ 1 ∷ 1 ∷
    2 ∷ 6 ∷ 1 ∷ 1 ∷ []

-- Under both rules: tables, maps, changes, lists of the forwarder; and 14.
unfoldable pub cases : List Case
cases =
    -- the rules differ at node 1 under sum and under max, and nowhere else
    (entry_at by_number 1 gives one_by_number) ∷
    (entry_at by_nearness 1 gives one_by_nearness) ∷
    (table_of by_number gives (0 ∷ 0 ∷ table_with one_by_number)) ∷
    (table_of by_nearness gives (0 ∷ 0 ∷ table_with one_by_nearness)) ∷
    -- at depth 1 link 3 is too deep for node 1, and the rules agree; at depth 0 the maps are equal too
    (table_of (quay lowest_number 1) gives (0 ∷ 0 ∷ table_with one_by_nearness)) ∷
    (table_of (quay nearer_first 1) gives (0 ∷ 0 ∷ table_with one_by_nearness)) ∷
    (table_of (quay lowest_number 0) gives (0 ∷ 0 ∷ root_entry ++ one_by_nearness ++ none ++ none ++ four ++ five)) ∷
    (table_of (quay nearer_first 0) gives (0 ∷ 0 ∷ root_entry ++ one_by_nearness ++ none ++ none ++ four ++ five)) ∷
    (map_of (quay lowest_number 0) gives (0 ∷ 0 ∷ 12 ∷ 0 ∷ 0 ∷ 0 ∷ 0 ∷ 0 ∷ 0 ∷ 0 ∷ 2 ∷ 2 ∷ [])) ∷
    (map_of (quay nearer_first 0) gives (0 ∷ 0 ∷ 12 ∷ 0 ∷ 0 ∷ 0 ∷ 0 ∷ 0 ∷ 0 ∷ 0 ∷ 2 ∷ 2 ∷ [])) ∷
    -- link 5 to length 2 ends the tie, and back to 1 makes it again: nodes 1, 3 and 4 are written, each as its rule says
    (change by_number 5 1 2 (table_with one_by_number) gives (0 ∷ 0 ∷ links_with 1 2 ++ longer)) ∷
    (change by_nearness 5 1 2 (table_with one_by_nearness) gives (0 ∷ 0 ∷ links_with 1 2 ++ longer)) ∷
    (change (quay_with lowest_number whole_search (links_with 1 2)) 5 1 1 longer gives (0 ∷ 0 ∷ links ++ table_with one_by_number)) ∷
    (change (quay_with nearer_first whole_search (links_with 1 2)) 5 1 1 longer gives (0 ∷ 0 ∷ links ++ table_with one_by_nearness)) ∷
    (change by_nearness 5 1 2 (room by_nearness) gives
    (0 ∷ 0 ∷ links_with 1 2 ++ nine ++ one_longer ++ nine ++ three_longer ++ four_longer ++ nine)) ∷
    -- withdrawn, link 3 is left
    (entry_at (quay_with nearer_first whole_search (links_with 0 1)) 1 gives one_without) ∷
    -- at length 3 both links cost nodes 3 and 4 as much under every measure: the lower number under either rule
    (entry_at (quay_with lowest_number whole_search (links_with 1 3)) 3 gives three_longest) ∷
    (entry_at (quay_with lowest_number whole_search (links_with 1 3)) 4 gives four_longest) ∷
    (entry_at (quay_with nearer_first whole_search (links_with 1 3)) 3 gives three_longest) ∷
    (entry_at (quay_with nearer_first whole_search (links_with 1 3)) 4 gives four_longest) ∷
    -- node 1's link is down: down to node 5 and across link 3 by the lowest number, across link 5 at once by the lower incr cost
    (list_of by_number 2 1 Sum gives (0 ∷ 0 ∷ 1 ∷ 6 ∷ 2 ∷ 1 ∷ 2 ∷ 5 ∷ 4 ∷ 3 ∷ 0 ∷ [])) ∷
    (list_of by_nearness 2 1 Sum gives (0 ∷ 0 ∷ 1 ∷ 4 ∷ 2 ∷ 1 ∷ 4 ∷ 3 ∷ 0 ∷ [])) ∷
    (list_of by_number 2 1 Max gives (0 ∷ 0 ∷ 1 ∷ 6 ∷ 2 ∷ 1 ∷ 2 ∷ 5 ∷ 4 ∷ 3 ∷ 0 ∷ [])) ∷
    (list_of by_nearness 2 1 Max gives (0 ∷ 0 ∷ 1 ∷ 4 ∷ 2 ∷ 1 ∷ 4 ∷ 3 ∷ 0 ∷ [])) ∷
    (list_of by_number 2 1 Incr gives (0 ∷ 0 ∷ 1 ∷ 4 ∷ 2 ∷ 1 ∷ 4 ∷ 3 ∷ 0 ∷ [])) ∷
    -- 14: table, map, change and list; after 4, and before 5
    (table_of (quay 2 whole_search) gives (14 ∷ 0 ∷ room by_number)) ∷
    (map_of (quay 2 whole_search) gives (14 ∷ 0 ∷ 9 ∷ 9 ∷ 9 ∷ 9 ∷ 9 ∷ 9 ∷ 9 ∷ 9 ∷ 0 ∷ no_node ∷ [])) ∷
    (change (quay 2 whole_search) 5 1 2 (table_with one_by_number) gives (14 ∷ 0 ∷ links ++ table_with one_by_number)) ∷
    (list_of (quay 2 whole_search) 2 1 Sum gives (14 ∷ 0 ∷ [])) ∷
    (table_of (quay 2 511) gives (4 ∷ 0 ∷ room by_number)) ∷
    (table_of (quay_with 2 whole_search links_loose) gives (14 ∷ 0 ∷ room by_number)) ∷
    (table_of (quay_with 1 whole_search links_loose) gives (5 ∷ 6 ∷ room by_number)) ∷ []
