-- What is known of a node: its parent, its distance, and what a search wants of T(x), x and all below it. Assumes nothing.
use Rattle.std.specs.Prelude.{Bool, not, ◌&&◌, ℕ, ◌+◌, ◌*◌, ◌-◌}
use Rattle.rows.specs.Count.{sum_to, max_to, only_if}
use Rattle.rows.specs.Lists.{total}
use Rattle.tree.specs.Tree.{Tree, route, dist, under, inside}
use Rattle.survey.specs.declared.Known.{Known}

-- How many nodes T(x) has.
unfoldable pub count : Tree → ℕ → ℕ
count t x = sum_to (inside t x (λ u. 1)) t.size

-- The sum of their distances.
unfoldable pub weight : Tree → ℕ → ℕ
weight t x = sum_to (inside t x (dist t)) t.size

-- The largest of their distances.
unfoldable pub deepest : Tree → ℕ → ℕ
deepest t x = max_to (inside t x (dist t)) t.size

-- Is u in T(p), p the parent of x, and not in T(x)?
unfoldable pub beside : Tree → ℕ → ℕ → Bool
beside t x u = under t (t.up x) u && not (under t x u)

-- The largest distance of such a node; 0 of the root, beside which there is none.
unfoldable pub aside : Tree → ℕ → ℕ
aside t x = max_to (λ u. only_if (beside t x u) (dist t u)) t.size

-- The nodes that the parent of v has below it more than v, at the parent's distance.
unfoldable pub stem_at : Tree → ℕ → ℕ
stem_at t v = (count t (t.up v) - count t v) * dist t (t.up v)

-- That, added over the route of x.
unfoldable pub stem : Tree → ℕ → ℕ
stem t x = total (stem_at t) (route t x)

-- Of the node x whose tree link fails. With K the length of the way from the root to the root through a link that crosses x, and z
-- its end in T(x), the link's sum is base(x) + count(x) * K - turn(z).
unfoldable pub base : Tree → ℕ → ℕ
base t x = weight t x + 2 * stem t x

-- Of the end z.
unfoldable pub turn : Tree → ℕ → ℕ
turn t z = 2 * (count t z * dist t z + stem t z)

-- All of it, of node x.
unfoldable pub known : Tree → ℕ → Known
known t x =
    record {
      up = t.up x;
      near = dist t x;
      count = count t x;
      base = base t x;
      turn = turn t x;
      deep = deepest t x;
      beside = aside t x;
    }
