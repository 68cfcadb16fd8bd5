-- Refusals 1 to 7 and 14: the sizes, and what a link's or a node's own record is refused for. Assumes nothing.
use Rattle.std.specs.Prelude.{Bool, cond, not, ◌&&◌, ◌||◌, [], ◌∷◌, ℕ, eqb, leb, ltb}
use Rattle.edition.specs.declared.Limits.{Limits}
use Rattle.edition.specs.declared.Search.{Search}
use Rattle.edition.specs.Refusals.{Verdict}
use Rattle.edition.specs.declared.Why.TheVariants.{NodeCount, LinkCount, BadRoot, BadDepth, BadRule}
use Rattle.edition.specs.Limits.{no_link, whole_search, lowest_number, nearer_first, served, withdrawn}
use Rattle.rows.specs.First.{refuse_if, firstly}
use Rattle.network.specs.declared.Link.{Link}
use Rattle.network.specs.Network.{Net, in_service, touches}

-- 1: n is 0 or over the limit.
unfoldable pub bad_nodes : Limits → ℕ → Bool
bad_nodes most n = eqb n 0 || ltb most.nodes n

-- 2: m is over the limit.
unfoldable pub bad_links : Limits → ℕ → Bool
bad_links most m = ltb most.links m

-- 3: the root is not a node.
unfoldable pub bad_root : ℕ → ℕ → Bool
bad_root n root = leb n root

-- 4: the depth is over the limit and not the whole search.
unfoldable pub bad_depth : Limits → ℕ → Bool
bad_depth most depth = ltb most.depth depth && not (eqb depth whole_search)

-- 14: the tie rule is not 0 or 1.
unfoldable pub bad_rule : ℕ → Bool
bad_rule rule = not (eqb rule lowest_number || eqb rule nearer_first)

-- 1 to 4, then 14, of numbers: n, m, root, depth and tie rule.
unfoldable pub size_verdict : Limits → ℕ → ℕ → Search → Verdict
size_verdict most n m search =
    firstly
    (refuse_if (bad_nodes most n) NodeCount 0 ∷
    refuse_if (bad_links most m) LinkCount 0 ∷
    refuse_if (bad_root n search.root) BadRoot 0 ∷
    refuse_if (bad_depth most search.depth) BadDepth 0 ∷
    refuse_if (bad_rule search.rule) BadRule 0 ∷ [])

-- 5: an end is not a node, or both ends are equal.
unfoldable pub bad_ends : ℕ → Link → Bool
bad_ends n l = leb n l.first || leb n l.second || eqb l.first l.second

-- 6: the service mark is not 0 or 1.
unfoldable pub bad_mark : ℕ → Bool
bad_mark mark = not (eqb mark withdrawn || eqb mark served)

-- 7 for a node that is not the root: its parent link is no link, withdrawn or not touching it.
unfoldable pub unfit : ℕ → ℕ → Link → ℕ → Bool
unfit m e l u = leb m e || not (in_service l) || not (touches l u)

-- 7: the root's parent link is not 65,535, or another's is unfit.
unfoldable pub bad_parent : Net → ℕ → Bool
bad_parent g u =
    let e = g.parent u in
    let other = unfit g.links e (g.link e) u in
    cond (eqb u g.search.root) (not (eqb (g.parent u) no_link)) other
