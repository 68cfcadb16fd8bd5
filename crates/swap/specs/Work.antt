-- What a fast search keeps of a link and of a climb. No public promise cites this page: laws join it to the costs.
-- Assumes nothing.
use Rattle.std.specs.Prelude.{ℕ, ◌+◌}
use Rattle.rows.specs.Count.{max_to}
use Rattle.network.specs.declared.Link.{Link}
use Rattle.tree.specs.Tree.{Tree, dist, inside, apart}

-- K, the length of the way from the root to the root through a link
unfoldable pub through : Tree → Link → ℕ
through t l = dist t l.first + l.length + dist t l.second

-- the largest t(u,z) over T(x)
unfoldable pub reach : Tree → ℕ → ℕ → ℕ
reach t x z = max_to (inside t x (λ u. apart t u z)) t.size
