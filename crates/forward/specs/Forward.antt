-- Where a router leads a start to the root while the tree link of a node x is down: its ordinary route, or a detour over the swap link
-- of x. A list of nodes, the links of its steps, and its length. Assumes nothing.
use Rattle.std.specs.Prelude.{Bool, cond, List, ◌∷◌, ◌++◌, map, reverse, ℕ}
use Rattle.edition.specs.Entries.{swap_by}
use Rattle.rows.specs.Lists.{up_to, total}
use Rattle.network.specs.Network.{Net}
use Rattle.tree.specs.Tree.{Tree, tree_of, route, under}
use Rattle.swap.specs.Swap.{inner_end, outer_end}
use Rattle.swap.specs.Entry.{entry}
use Rattle.forward.specs.declared.Ask.{Ask}

-- Is the start cut off: is it in T(x)?
unfoldable pub cut_off : Net → Ask → Bool
cut_off g a = under (tree_of g) a.failed a.start

-- The number of x's swap link under the measure, as the table has it.
unfoldable pub swap_link : Net → Ask → ℕ
swap_link g a = (swap_by (entry g a.failed) a.measure).link

-- Its end in T(x), z.
unfoldable pub lower_end : Net → Ask → ℕ
lower_end g a = inner_end (tree_of g) a.failed (g.link (swap_link g a))

-- Its other end, z'.
unfoldable pub upper_end : Net → Ask → ℕ
upper_end g a = outer_end (tree_of g) a.failed (g.link (swap_link g a))

-- Up from u to x, down the tree from x to z, across to z', and the route of z'. Where z' is not in T(x), x stands there once, between
-- up and down (`failed_once`).
unfoldable pub around : Tree → ℕ → ℕ → ℕ → ℕ → List ℕ
around t x z z' u = up_to x (route t u) ++ (x ∷ (reverse (up_to x (route t z)) ++ route t z'))

-- The links of the steps up from u to c: the parent link of each node passed.
unfoldable pub steps_up : Tree → ℕ → ℕ → List ℕ
steps_up t c u = map t.link (up_to c (route t u))

-- The links of the steps around, with link e from z to z'.
unfoldable pub steps_around : Tree → ℕ → ℕ → ℕ → ℕ → ℕ → List ℕ
steps_around t x e z z' u = steps_up t x u ++ (reverse (steps_up t x z) ++ (e ∷ steps_up t t.root z'))

-- The detour: around by the swap link of x.
unfoldable pub detour : Net → Ask → List ℕ
detour g a = around (tree_of g) a.failed (lower_end g a) (upper_end g a) a.start

-- The list: the detour where the start is cut off, else the start's route.
unfoldable pub listed : Net → Ask → List ℕ
listed g a = cond (cut_off g a) (detour g a) (route (tree_of g) a.start)

-- The links of its steps, from each node to the next.
unfoldable pub steps : Net → Ask → List ℕ
steps g a =
    let t = tree_of g in
    let over = steps_around t a.failed (swap_link g a) (lower_end g a) (upper_end g a) a.start in
    cond (cut_off g a) over (steps_up t t.root a.start)

-- The length of a list: the lengths of the links of its steps, added.
unfoldable pub length_of : Net → List ℕ → ℕ
length_of g links = total (λ e. (g.link e).length) links
