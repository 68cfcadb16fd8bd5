-- Nodes of a network that is taken, and what is on their routes. Assumes nothing.
use mathlib.Core.Path.{◌≡◌, refl}
use mathlib.Core.Bool.{true, false}
use mathlib.Core.List.{List}
use Prim.Native.Nat.{ℕ, suc, ◌+◌, ◌<◌, ◌≤◌}
use native.Mathlib.Omega.{arith}
use lib.Dec.{eqb}
use lib.ListN.{length}
use Rattle.edition.specs.declared.Search.{Search}
use Rattle.edition.specs.Limits.{node_limit}
use Rattle.network.specs.Network.{Net, net_of}
use Rattle.tree.specs.Tree.{tree_of, route, under, hops}
use Rattle.tree.proofs.Ways.{Home, hops-cut, under-root, under_self, under_trans, short_of, over_next}
use Rattle.tree.proofs.Climbing.{shorter, up_above}
use Rattle.tree.proofs.Bounded.{under-below}
use Rattle.sound.proofs.Sounds.{Sound, sound}
use Rattle.sound.proofs.Holding.{nodes-few, root_in, home, up_in}
use Rattle.forward.specs.Work.{Node, Upward}

module _ (g : Net) where
  pub size_is : (tree_of g).size ≡ g.nodes
  unfolding tree_of
  size_is = refl

  module _ {u : ℕ} (n : Node g u) where
    pub fine : Sound g
    fine = sound g n.is_taken

    pub homed : Home (tree_of g) u
    homed = home g fine u n.low

    pub size_few : (tree_of g).size ≤ node_limit
    size_few = omega (arith, size_is, nodes-few g fine)

    pub in_tree : u < (tree_of g).size
    in_tree = omega (arith, size_is, n.low)

    -- the root is one
    pub top : Node g (tree_of g).root
    unfolding tree_of
    top = record { is_taken = n.is_taken; low = root_in g fine }

    pub to_top : Upward g (tree_of g).root u
    to_top = record { node = n; on = under-root (tree_of g) u homed }

    -- so is what is on the route of one
    pub above : (x : ℕ) → under (tree_of g) x u ≡ true → Node g x
    above x p =
        record {
          is_taken = n.is_taken;
          low = omega (arith, size_is, under-below (tree_of g) (up_in g fine) u x homed in_tree p);
        }

  -- hops add up
  pub hops-sum :
      (x c : ℕ) {u : ℕ}
      → Node g u → under (tree_of g) c u ≡ true → under (tree_of g) x c ≡ true
      → hops (tree_of g) x u ≡ hops (tree_of g) c u + hops (tree_of g) x c
  hops-sum x c {u} n p q =
      omega (
        arith,
        hops-cut (tree_of g) u c (homed n) p,
        hops-cut (tree_of g) c x (homed (above n c p)) q,
        hops-cut (tree_of g) u x (homed n) (under_trans (tree_of g) c x u (homed n) p q),
      )

  -- a node c below x that is not x
  module _ {x c : ℕ} (w : Upward g x c) (off : c ≡ x → ⊥) where
    hc : Home (tree_of g) c
    hc = homed w.node

    -- is not the root
    pub not_top : eqb c (tree_of g).root ≡ false
    not_top = short_of (tree_of g) c x hc w.on off

    pub next : Node g ((tree_of g).up c)
    next = above w.node ((tree_of g).up c) (up_above (tree_of g) c hc c (under_self (tree_of g) c hc) not_top)

    -- and its parent is below x
    pub next_on : under (tree_of g) x ((tree_of g).up c) ≡ true
    next_on = over_next (tree_of g) c x hc w.on off

    pub hops_next : hops (tree_of g) x c ≡ suc (hops (tree_of g) x ((tree_of g).up c))
    hops_next =
        omega (
          arith,
          hops-cut (tree_of g) c x hc w.on,
          hops-cut (tree_of g) ((tree_of g).up c) x (homed next) next_on,
          shorter (tree_of g) c hc c (under_self (tree_of g) c hc) not_top,
        )

    pub route_less : length (route (tree_of g) ((tree_of g).up c)) < length (route (tree_of g) c)
    route_less = omega (arith, shorter (tree_of g) c hc c (under_self (tree_of g) c hc) not_top)

-- there are no more parents than nodes can be
pub few_in : (links parents : List ℕ) (search : Search) {u : ℕ} → Node (net_of links parents search) u → length parents ≤ node_limit
unfolding net_of
few_in links parents search n = nodes-few (net_of links parents search) (fine (net_of links parents search) n)
