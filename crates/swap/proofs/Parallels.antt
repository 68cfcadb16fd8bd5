-- The tree link is known by its number, and the depth is counted from x down: a link beside the tree link of x, with the same
-- ends, is a candidate at every depth. Assumes nothing.
use mathlib.Core.Path.{◌≡◌}
use mathlib.Core.Bool.{true, false}
use Prim.Native.Nat.{ℕ, ◌<◌}
use native.Mathlib.Omega.{arith}
use lib.Dec.{eqb, leb}
use borrow.Author.Tests.{le-leb}
use Rattle.edition.specs.Refusals.{taken}
use Rattle.edition.specs.Limits.{whole_search}
use Rattle.rows.proofs.Tests.{or_right}
use Rattle.network.specs.declared.Link.{Link}
use Rattle.network.specs.Network.{Net, in_service}
use Rattle.tree.specs.Tree.{Tree, tree_of, hops, has_route}
use Rattle.tree.proofs.Ways.{under_self, hops-cut}
use Rattle.tree.proofs.Climbing.{below-not}
use Rattle.sound.specs.Sound.{net_verdict}
use Rattle.sound.proofs.Sounds.{sound}
use Rattle.sound.proofs.Holding.{home}
use Rattle.swap.specs.Swap.{inner_end, crosses, within, candidate}

-- the link joins a and b
pub data Joins (l : Link) (a b : ℕ) : Type 0 where
  so : l.first ≡ a → l.second ≡ b → Joins l a b
  turned : l.first ≡ b → l.second ≡ a → Joins l a b

module _ (t : Tree) (x : ℕ) (routed : has_route t x ≡ true) where
  -- x itself is 0 hops below x
  pub own-within : (depth : ℕ) → within t depth x x ≡ true
  unfolding within
  own-within depth =
      or_right (eqb depth whole_search) (leb (hops t x x) depth) (le-leb (hops t x x) depth (omega (arith, hops-cut t x x routed (under_self t x routed))))

  module _ (far : eqb x t.root ≡ false) (e : ℕ) (l : Link) (up : in_service l ≡ true)
      (other : eqb e (t.link x) ≡ false) (ends : Joins l x (t.up x)) where
    -- a link in service beside the tree link of x crosses x, whichever of its ends stands first
    pub parallel_crosses : crosses t x e l ≡ true
    unfolding crosses
    parallel_crosses = go ends
      where
        go : Joins l x (t.up x) → crosses t x e l ≡ true
        go (so one two) = rw (up, other, one, two, under_self t x routed, below-not t x routed far)
        go (turned one two) = rw (up, other, one, two, under_self t x routed, below-not t x routed far)

    -- its end in T(x) is x itself
    pub parallel_inner : inner_end t x l ≡ x
    unfolding inner_end
    parallel_inner = go ends
      where
        go : Joins l x (t.up x) → inner_end t x l ≡ x
        go (so one two) = rw (one, under_self t x routed)
        go (turned one two) = rw (one, two, below-not t x routed far)

-- in a sound network such a link is a candidate at every depth
pub parallel_candidate :
    (g : Net) (x e : ℕ)
    → net_verdict g ≡ taken → x < g.nodes → eqb x g.search.root ≡ false → eqb e (g.parent x) ≡ false
    → in_service (g.link e) ≡ true → Joins (g.link e) x ((tree_of g).up x) → candidate g x e ≡ true
unfolding candidate tree_of
parallel_candidate g x e ok l far other up ends =
    let routed = home g (sound g ok) x l in
    rw (
      parallel_crosses (tree_of g) x routed far e (g.link e) up other ends,
      parallel_inner (tree_of g) x routed far e (g.link e) up other ends,
      own-within (tree_of g) x routed g.search.depth,
    )
