-- The entry of a node: its state, and under each measure the best candidate, its cost and the mark of its lower end. Assumes nothing.
use Rattle.std.specs.Prelude.{None, Option, Some, Bool, cond, ℕ, eqb}
use Rattle.edition.specs.declared.Measure.{Measure}
use Rattle.edition.specs.declared.Measure.TheVariants.{Sum, Incr, Max}
use Rattle.edition.specs.declared.Swap.{Swap}
use Rattle.edition.specs.declared.Entry.{Entry}
use Rattle.edition.specs.Entries.{root_state, swap_state, none_state, bridge_state, no_swap, blank}
use Rattle.rows.specs.Count.{some_to}
use Rattle.network.specs.Network.{Net}
use Rattle.tree.specs.Tree.{tree_of}
use Rattle.swap.specs.Swap.{lower_mark, crosses, candidate, cost_of, best}

-- Does some link cross x?
unfoldable pub crossed : Net → ℕ → Bool
crossed g x = some_to (λ e. crosses (tree_of g) x e (g.link e)) g.links

-- Is some link a candidate of x?
unfoldable pub has_candidate : Net → ℕ → Bool
has_candidate g x = some_to (candidate g x) g.links

-- The state: 0 root; 1 swap; 2 links cross but none within the depth; 3 bridge, nothing crosses.
unfoldable pub state : Net → ℕ → ℕ
state g x =
    let far = cond (crossed g x) none_state bridge_state in
    let other = cond (has_candidate g x) swap_state far in
    cond (eqb x g.search.root) root_state other

-- The link found with its cost and the mark of its lower end; no link, 0 and 0 where nothing is found.
unfoldable pub priced : Measure → Net → ℕ → Option ℕ → Swap
priced s g x None = no_swap
priced s g x (Some e) = record { link = e; cost = cost_of s g x e; lower = lower_mark (tree_of g) x (g.link e) }

-- The best candidate under a measure, with its cost and the mark of its lower end.
unfoldable pub swap_of : Measure → Net → ℕ → Swap
swap_of s g x = priced s g x (best s g x)

-- The entry of x: its state, and in state 1 the best candidates, their costs and the marks of their lower ends. No other state has
-- links, costs or marks.
unfoldable pub entry : Net → ℕ → Entry
entry g x =
    let own : Entry = record { state = swap_state; sum = swap_of Sum g x; incr = swap_of Incr g x; max = swap_of Max g x } in
    cond (eqb (state g x) swap_state) own (blank (state g x))
