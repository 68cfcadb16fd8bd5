-- Refusal 8 refuses no node that has a route. Where 5 and 7 refuse nothing, each node's parent is a node; so a node that does not
-- come to the root within n nodes never does, and the cut after n nodes cuts no route. Assumes nothing.
use mathlib.Core.Path.{◌≡◌, refl}
use mathlib.Core.Bool.{Bool, true, false, not}
use Prim.Native.Nat.{ℕ, ◌<◌}
use lib.Dec.{eqb, leb}
use borrow.Author.Tests.{leb-false, not-true}
use Rattle.rows.proofs.Tests.{clash, or3_false, not_so}
use Rattle.network.specs.Network.{Net, in_service, touches, other_end}
use Rattle.network.specs.Records.{bad_ends, unfit, bad_parent}
use Rattle.tree.specs.Tree.{tree_of, climb, route, arrives, has_route}
use Rattle.tree.proofs.Ways.{way-climb, way, way_only}
use Rattle.tree.proofs.Bounded.{never_cut}
use Rattle.sound.specs.Sound.{no_route}

module _ (g : Net) (ends_ok : (e : ℕ) → e < g.links → bad_ends g.nodes (g.link e) ≡ false)
    (parents-ok : (u : ℕ) → u < g.nodes → bad_parent g u ≡ false) where
  ends_say :
      (e : ℕ)
      → e < g.links
      → (leb g.nodes (g.link e).first ≡ false)
      × (leb g.nodes (g.link e).second ≡ false) × (eqb (g.link e).first (g.link e).second ≡ false)
  unfolding bad_ends
  ends_say e l =
      or3_false (leb g.nodes (g.link e).first) (leb g.nodes (g.link e).second) (eqb (g.link e).first (g.link e).second)
      (ends_ok e l)

  parent-link : (u : ℕ) → u < g.nodes → eqb u g.search.root ≡ false → g.parent u < g.links
  unfolding bad_parent unfit
  parent-link u l r =
      leb-false g.links (g.parent u)
      (or3_false (leb g.links (g.parent u)) (not (in_service (g.link (g.parent u)))) (not (touches (g.link (g.parent u)) u))
      (rw r at (parents-ok u l))).0

  -- the parent of a node is a node
  pub parent-node : (u : ℕ) → u < (tree_of g).size → (tree_of g).up u < (tree_of g).size
  unfolding tree_of other_end
  parent-node u l = go (eqb u g.search.root) refl
    where
      other : (e : ℕ) → e < g.links → (b : Bool) → eqb (g.link e).first u ≡ b → other_end (g.link e) u < g.nodes
      other e k true q = rw q (leb-false g.nodes (g.link e).second (ends_say e k).1)
      other e k false q = rw q (leb-false g.nodes (g.link e).first (ends_say e k).0)

      go : (b : Bool) → eqb u g.search.root ≡ b → (tree_of g).up u < g.nodes
      go true q = rw q l
      go false q = rw q (other (g.parent u) (parent-link u l q) (eqb (g.link (g.parent u)).first u) refl)

  -- whoever comes to the root within any number of nodes has a route: the cut after n nodes cuts none
  pub cuts_none : (u k : ℕ) → u < g.nodes → arrives (tree_of g) k u ≡ true → has_route (tree_of g) u ≡ true
  unfolding tree_of
  cuts_none u k l h = never_cut (tree_of g) parent-node (way-climb (tree_of g) k u h) l

  -- what it climbs until then is its route
  pub climb_whole : (u k : ℕ) → u < g.nodes → arrives (tree_of g) k u ≡ true → climb (tree_of g) k u ≡ route (tree_of g) u
  climb_whole u k l h = way_only (tree_of g) (way-climb (tree_of g) k u h) (way (tree_of g) u (cuts_none u k l h))

  -- a node without a route does not come to the root within any number of nodes
  pub lost_for_ever : (u : ℕ) → u < g.nodes → no_route g u ≡ true → (k : ℕ) → arrives (tree_of g) k u ≡ false
  unfolding no_route
  lost_for_ever u l h k =
      not_so (arrives (tree_of g) k u) (λ e. clash (cuts_none u k l e) (not-true (has_route (tree_of g) u) h))
