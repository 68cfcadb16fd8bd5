-- The tree that is made from a network: the root's rise is 0, and no rise passes what a link's length can be. Assumes nothing.
use Rattle.std.proofs.Common.{◌≡◌, ℕ, ◌≤◌, Bool, true, false, eqb, List, get_or, refl, arith}
use Rattle.edition.specs.declared.Search.{Search}
use Rattle.edition.specs.Limits.{longest}
use Rattle.network.specs.Network.{Net, net_of}
use Rattle.network.proofs.Whole.{length_held}
use Rattle.tree.specs.Tree.{tree_of}

pub rise-flat : (g : Net) (v : ℕ) → eqb v (tree_of g).root ≡ true → (tree_of g).rise v ≡ 0
unfolding tree_of
rise-flat g v e = rw e

pub rise_held : (g : Net) → ((e : ℕ) → (g.link e).length ≤ longest) → (v : ℕ) → (tree_of g).rise v ≤ longest
unfolding tree_of
rise_held g h v = go (eqb v g.search.root) refl
  where
    go : (b : Bool) → eqb v g.search.root ≡ b → (tree_of g).rise v ≤ longest
    go true e = rw e (omega arith)
    go false e = rw e (h (g.parent v))

-- rows of 16-bit numbers
pub rise-small :
    (links parents : List ℕ) (search : Search)
    → ((i : ℕ) → get_or links i 0 ≤ longest) → (v : ℕ) → (tree_of (net_of links parents search)).rise v ≤ longest
unfolding net_of
rise-small links parents search h = rise_held (net_of links parents search) (length_held links h)
