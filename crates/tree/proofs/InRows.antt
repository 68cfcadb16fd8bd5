-- The laws of climbing for the tree of lent rows, in the words of the code: numbers of 16 bits, tests on node numbers.
-- Assumes nothing.
use Rattle.std.proofs.Common.{◌≡◌, ℕ, ◌+◌, ◌<◌, ◌≤◌, true, false, eqb, List, length, get_or, refl, eq-eqb, ne_eqb}
use Rattle.edition.specs.declared.Search.{Search}
use Rattle.edition.specs.Limits.{node_limit, longest}
use Rattle.network.specs.Network.{net_of}
use Rattle.tree.specs.declared.Climb.{Climb}
use Rattle.tree.specs.Tree.{Tree, tree_of, climb, route}
use Rattle.tree.specs.Answers.{begun, stepped}
use Rattle.tree.specs.Work.{Rooted}
use Rattle.tree.proofs.Made.{rise-flat, rise-small}
use Rattle.tree.proofs.Climbing.{Rising, rising-start, rising-more, rising-root, rising-end}

abbrev pub tree_in : List ℕ → List ℕ → Search → Tree
tree_in links parents search = tree_of (net_of links parents search)

module _ (links parents : List ℕ) (search : Search) where
  pub size_in : (tree_in links parents search).size ≡ length parents
  unfolding tree_of net_of
  size_in = refl

  pub root_in : (tree_in links parents search).root ≡ search.root
  unfolding tree_of net_of
  root_in = refl

  pub at_root : (v : ℕ) → v ≡ search.root → eqb v (tree_in links parents search).root ≡ true
  unfolding tree_of net_of
  at_root v e = eq-eqb v search.root e

  pub off_root : (v : ℕ) → (v ≡ search.root → ⊥) → eqb v (tree_in links parents search).root ≡ false
  unfolding tree_of net_of
  off_root v e = ne_eqb v search.root e

  route_whole : (u : ℕ) → route (tree_in links parents search) u ≡ climb (tree_in links parents search) (length parents) u
  unfolding route tree_of net_of
  route_whole u = refl

  module _ (held : (i : ℕ) → get_or links i 0 ≤ longest) where
    pub few : (v : ℕ) → (tree_in links parents search).rise v ≤ longest
    few = rise-small links parents search held

    module _ (u : ℕ) where
      pub ascend_start : (c : Climb) → c ≡ begun u → Rising (tree_in links parents search) (length parents) u 0 c
      ascend_start c q = rising-start (tree_in links parents search) few (rise-flat _) (length parents) u c q

      module _ (k : ℕ) (c : Climb) (r : Rising (tree_in links parents search) (length parents) u k c) where
        pub ascend_more :
            length parents ≤ node_limit
            → k < length parents → (c.node ≡ search.root → ⊥) → (d : Climb)
            → d ≡ stepped (tree_in links parents search) c
            → Rising (tree_in links parents search) (length parents) u (k + 1) d
        ascend_more s l e d q = rising-more (tree_in links parents search) few (rise-flat _) (length parents) u k c r s l (off_root c.node e) d q

        pub ascend_root : k < length parents → c.node ≡ search.root → Rooted (tree_in links parents search) u c
        ascend_root l e = rising-root (tree_in links parents search) few (rise-flat _) (length parents) u k c r l (at_root c.node e) (route_whole u)

        pub ascend_end : length parents ≤ k → Rooted (tree_in links parents search) u c
        ascend_end l = rising-end (tree_in links parents search) few (rise-flat _) (length parents) u k c r l (route_whole u)
