-- The Harbour case of SCOPE: what is asked in P1 to P12, of the forwarder and of two nodes, and the numbers that it gives: SCOPE's, or
-- worked out by hand. Assumes nothing.
use Rattle.std.specs.Prelude.{List, [], ◌∷◌, ◌++◌, ℕ}
use Rattle.edition.specs.declared.Measure.TheVariants.{Sum, Incr, Max}
use Rattle.edition.specs.Limits.{no_link, no_node, whole_search, lowest_number}
use Rattle.harbour.specs.Asking.{Port, nine, room, Case, ◌gives◌, entry_at, table_of, map_of, change, list_of, parts_of, pair_of}

-- Links 0 to 6: two ends, length, service mark.
unfoldable pub links : List ℕ
links =
    0 ∷ 1 ∷ 2 ∷ 1 ∷
    1 ∷ 2 ∷ 3 ∷ 1 ∷
    1 ∷ 3 ∷ 1 ∷ 1 ∷
    0 ∷ 2 ∷ 6 ∷ 1 ∷
    0 ∷ 3 ∷ 7 ∷ 1 ∷
    2 ∷ 3 ∷ 4 ∷ 1 ∷
    0 ∷ 4 ∷ 9 ∷ 1 ∷ []

-- The parent links of nodes 0 to 4.
unfoldable pub parents : List ℕ
parents = no_link ∷ 0 ∷ 1 ∷ 2 ∷ 6 ∷ []

-- The Harbour network at a depth, by the lowest number.
unfoldable pub harbour : ℕ → Port
harbour depth = record { links = links; parents = parents; search = record { root = 0; depth = depth; rule = lowest_number } }

-- The row of links with link 4 recorded from its other end.
unfoldable pub links_turned : List ℕ
links_turned =
    0 ∷ 1 ∷ 2 ∷ 1 ∷
    1 ∷ 2 ∷ 3 ∷ 1 ∷
    1 ∷ 3 ∷ 1 ∷ 1 ∷
    0 ∷ 2 ∷ 6 ∷ 1 ∷
    3 ∷ 0 ∷ 7 ∷ 1 ∷
    2 ∷ 3 ∷ 4 ∷ 1 ∷
    0 ∷ 4 ∷ 9 ∷ 1 ∷ []

-- The Harbour network with these links, at the whole search.
unfoldable pub turned : Port
turned = record { links = links_turned; parents = parents; search = (harbour whole_search).search }

-- Harbour with a cycle: link 5 is the parent link of both its ends, nodes 2 and 3.
unfoldable pub round : Port
round = record { links = links; parents = no_link ∷ 0 ∷ 5 ∷ 5 ∷ 6 ∷ []; search = (harbour whole_search).search }

-- One node and no link.
unfoldable pub alone : Port
alone = record { links = []; parents = no_link ∷ []; search = (harbour whole_search).search }

-- The root's entry.
unfoldable pub root_entry : List ℕ
root_entry = 0 ∷ no_link ∷ no_link ∷ no_link ∷ 0 ∷ 0 ∷ 0 ∷ 0 ∷ 0 ∷ 0 ∷ []

-- A bridge's entry: node 4's, P4.
unfoldable pub bridge : List ℕ
bridge = 3 ∷ no_link ∷ no_link ∷ no_link ∷ 0 ∷ 0 ∷ 0 ∷ 0 ∷ 0 ∷ 0 ∷ []

-- The entry of node 1 at the whole search, P1.
unfoldable pub one : List ℕ
one = 1 ∷ 3 ∷ 4 ∷ 3 ∷ 25 ∷ 6 ∷ 10 ∷ 1 ∷ 1 ∷ 1 ∷ []

-- The entry of node 2, P2.
unfoldable pub two : List ℕ
two = 1 ∷ 3 ∷ 3 ∷ 3 ∷ 6 ∷ 1 ∷ 6 ∷ 1 ∷ 1 ∷ 1 ∷ []

-- The entry of node 3, P3.
unfoldable pub three : List ℕ
three = 1 ∷ 4 ∷ 4 ∷ 4 ∷ 7 ∷ 4 ∷ 7 ∷ 1 ∷ 1 ∷ 1 ∷ []

-- The entry of node 1 where link 4 is recorded from its other end.
unfoldable pub one_turned : List ℕ
one_turned = 1 ∷ 3 ∷ 4 ∷ 3 ∷ 25 ∷ 6 ∷ 10 ∷ 1 ∷ 0 ∷ 1 ∷ []

-- The entry of node 3 there.
unfoldable pub three_turned : List ℕ
three_turned = 1 ∷ 4 ∷ 4 ∷ 4 ∷ 7 ∷ 4 ∷ 7 ∷ 0 ∷ 0 ∷ 0 ∷ []

-- The table of the whole search.
unfoldable pub right : List ℕ
right = root_entry ++ one ++ two ++ three ++ bridge

-- The row of links after P7: link 5 has length 2.
unfoldable pub links_seven : List ℕ
links_seven =
    0 ∷ 1 ∷ 2 ∷ 1 ∷
    1 ∷ 2 ∷ 3 ∷ 1 ∷
    1 ∷ 3 ∷ 1 ∷ 1 ∷
    0 ∷ 2 ∷ 6 ∷ 1 ∷
    0 ∷ 3 ∷ 7 ∷ 1 ∷
    2 ∷ 3 ∷ 2 ∷ 1 ∷
    0 ∷ 4 ∷ 9 ∷ 1 ∷ []

-- The row of links after P9: link 3 is withdrawn.
unfoldable pub links_nine : List ℕ
links_nine =
    0 ∷ 1 ∷ 2 ∷ 1 ∷
    1 ∷ 2 ∷ 3 ∷ 1 ∷
    1 ∷ 3 ∷ 1 ∷ 1 ∷
    0 ∷ 2 ∷ 6 ∷ 0 ∷
    0 ∷ 3 ∷ 7 ∷ 1 ∷
    2 ∷ 3 ∷ 4 ∷ 1 ∷
    0 ∷ 4 ∷ 9 ∷ 1 ∷ []

-- The entry of node 2 after P7.
unfoldable pub two_seven : List ℕ
two_seven = 1 ∷ 5 ∷ 5 ∷ 5 ∷ 5 ∷ 0 ∷ 5 ∷ 0 ∷ 0 ∷ 0 ∷ []

-- The entry of node 1 after P9.
unfoldable pub one_nine : List ℕ
one_nine = 1 ∷ 4 ∷ 4 ∷ 4 ∷ 26 ∷ 6 ∷ 11 ∷ 1 ∷ 1 ∷ 1 ∷ []

-- The entry of node 2 after P9.
unfoldable pub two_nine : List ℕ
two_nine = 1 ∷ 5 ∷ 5 ∷ 5 ∷ 7 ∷ 2 ∷ 7 ∷ 0 ∷ 0 ∷ 0 ∷ []

-- P1 to P12, where the marks differ between measures, lists of the forwarder, and pairs of nodes.
unfoldable pub cases : List Case
cases =
    -- P1 to P4
    (entry_at (harbour whole_search) 1 gives one) ∷
    (entry_at (harbour whole_search) 2 gives two) ∷
    (entry_at (harbour whole_search) 3 gives three) ∷
    (entry_at (harbour whole_search) 4 gives bridge) ∷
    (table_of (harbour whole_search) gives (0 ∷ 0 ∷ right)) ∷
    (map_of (harbour whole_search) gives (0 ∷ 0 ∷ 16 ∷ 0 ∷ 0 ∷ 0 ∷ 0 ∷ 0 ∷ 0 ∷ 0 ∷ 1 ∷ 4 ∷ [])) ∷
    -- P5
    (entry_at (harbour 0) 1 gives (2 ∷ no_link ∷ no_link ∷ no_link ∷ 0 ∷ 0 ∷ 0 ∷ 0 ∷ 0 ∷ 0 ∷ [])) ∷
    (map_of (harbour 0) gives (0 ∷ 0 ∷ 18 ∷ 0 ∷ 0 ∷ 0 ∷ 0 ∷ 0 ∷ 0 ∷ 0 ∷ 2 ∷ 1 ∷ [])) ∷
    -- P6
    (table_of (harbour 1) gives (0 ∷ 0 ∷ right)) ∷
    -- P7
    (change (harbour whole_search) 5 1 2 right gives (0 ∷ 0 ∷ links_seven ++ root_entry ++ one ++ two_seven ++ three ++ bridge)) ∷
    (change (harbour whole_search) 5 1 2 (room (harbour whole_search)) gives (0 ∷ 0 ∷ links_seven ++ nine ++ nine ++ two_seven ++ three ++ nine)) ∷
    -- P8
    (change (harbour whole_search) 5 1 1 right gives (13 ∷ 5 ∷ links ++ right)) ∷
    -- P9
    (change (harbour whole_search) 3 0 6 right gives (0 ∷ 0 ∷ links_nine ++ root_entry ++ one_nine ++ two_nine ++ three ++ bridge)) ∷
    (change (harbour whole_search) 3 0 6 (room (harbour whole_search)) gives (0 ∷ 0 ∷ links_nine ++ nine ++ one_nine ++ two_nine ++ nine ++ nine)) ∷
    -- P10
    (change (harbour whole_search) 0 1 2 right gives (12 ∷ 0 ∷ links ++ right)) ∷
    -- P11
    (table_of alone gives (0 ∷ 0 ∷ root_entry)) ∷
    (map_of alone gives (0 ∷ 0 ∷ 0 ∷ 0 ∷ 0 ∷ 0 ∷ 0 ∷ 0 ∷ 0 ∷ 0 ∷ 0 ∷ no_node ∷ [])) ∷
    -- P12
    (change (harbour whole_search) 7 1 2 right gives (11 ∷ 0 ∷ links ++ right)) ∷
    -- request 2026-01
    (table_of turned gives (0 ∷ 0 ∷ root_entry ++ one_turned ++ two ++ three_turned ++ bridge)) ∷
    -- request 2026-02: node 1's link is down; by sum the swap link is 3, from 2 to 0, and by incr 4, from 3 to 0
    (list_of (harbour whole_search) 3 1 Sum gives (0 ∷ 0 ∷ 1 ∷ 10 ∷ 3 ∷ 1 ∷ 2 ∷ 0 ∷ [])) ∷
    (parts_of (harbour whole_search) 3 1 Sum gives (10 ∷ 1 ∷ 0 ∷ [])) ∷
    (list_of (harbour whole_search) 2 1 Sum gives (0 ∷ 0 ∷ 1 ∷ 12 ∷ 2 ∷ 1 ∷ 2 ∷ 0 ∷ [])) ∷
    (parts_of (harbour whole_search) 2 1 Sum gives (6 ∷ 2 ∷ 3 ∷ [])) ∷
    (list_of (harbour whole_search) 1 1 Sum gives (0 ∷ 0 ∷ 1 ∷ 9 ∷ 1 ∷ 2 ∷ 0 ∷ [])) ∷
    (list_of (harbour whole_search) 4 1 Sum gives (0 ∷ 0 ∷ 0 ∷ 9 ∷ 4 ∷ 0 ∷ [])) ∷
    (list_of (harbour whole_search) 3 1 Incr gives (0 ∷ 0 ∷ 1 ∷ 9 ∷ 3 ∷ 1 ∷ 3 ∷ 0 ∷ [])) ∷
    (parts_of (harbour whole_search) 3 1 Incr gives (7 ∷ 3 ∷ 1 ∷ [])) ∷
    -- node 4 is a bridge, and at depth 0 node 1 has none within the depth: 17 where the start is cut off, its route where it is not
    (list_of (harbour whole_search) 4 4 Max gives (17 ∷ 4 ∷ [])) ∷
    (list_of (harbour whole_search) 3 4 Max gives (0 ∷ 0 ∷ 0 ∷ 3 ∷ 3 ∷ 1 ∷ 0 ∷ [])) ∷
    (list_of (harbour 0) 2 1 Sum gives (17 ∷ 1 ∷ [])) ∷
    (list_of (harbour 0) 4 1 Sum gives (0 ∷ 0 ∷ 0 ∷ 9 ∷ 4 ∷ 0 ∷ [])) ∷
    -- 15 and 16
    (list_of (harbour whole_search) 5 0 Sum gives (15 ∷ 0 ∷ [])) ∷
    (list_of (harbour whole_search) 3 0 Sum gives (16 ∷ 0 ∷ [])) ∷
    (list_of (harbour whole_search) 3 5 Sum gives (16 ∷ 0 ∷ [])) ∷
    -- request 2026-03: beside each other, in either order; meeting at the root; one above the other; equal; the root
    (pair_of (harbour whole_search) 2 3 gives (0 ∷ 0 ∷ 1 ∷ 0 ∷ 0 ∷ 4 ∷ [])) ∷
    (pair_of (harbour whole_search) 3 2 gives (0 ∷ 0 ∷ 1 ∷ 0 ∷ 0 ∷ 4 ∷ [])) ∷
    (pair_of (harbour whole_search) 2 4 gives (0 ∷ 0 ∷ 0 ∷ 0 ∷ 0 ∷ 14 ∷ [])) ∷
    (pair_of (harbour whole_search) 3 1 gives (0 ∷ 0 ∷ 1 ∷ 0 ∷ 0 ∷ 1 ∷ [])) ∷
    (pair_of (harbour whole_search) 1 3 gives (0 ∷ 0 ∷ 1 ∷ 0 ∷ 0 ∷ 1 ∷ [])) ∷
    (pair_of (harbour whole_search) 3 3 gives (0 ∷ 0 ∷ 3 ∷ 0 ∷ 0 ∷ 0 ∷ [])) ∷
    (pair_of (harbour whole_search) 3 0 gives (0 ∷ 0 ∷ 0 ∷ 0 ∷ 0 ∷ 3 ∷ [])) ∷
    (pair_of (harbour whole_search) 0 3 gives (0 ∷ 0 ∷ 0 ∷ 0 ∷ 0 ∷ 3 ∷ [])) ∷
    -- 8 at the first, and at the second: no node, and a cycle; who is not on the cycle is as far as before
    (pair_of (harbour whole_search) 5 6 gives (8 ∷ 5 ∷ 8 ∷ 5 ∷ [])) ∷
    (pair_of (harbour whole_search) 3 5 gives (8 ∷ 5 ∷ 8 ∷ 5 ∷ [])) ∷
    (pair_of round 2 3 gives (8 ∷ 2 ∷ 8 ∷ 2 ∷ [])) ∷
    (pair_of round 1 3 gives (8 ∷ 3 ∷ 8 ∷ 3 ∷ [])) ∷
    (pair_of round 1 4 gives (0 ∷ 0 ∷ 0 ∷ 0 ∷ 0 ∷ 11 ∷ [])) ∷ []
