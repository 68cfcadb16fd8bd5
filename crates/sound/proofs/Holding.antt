-- What holds in a sound network: sizes, ends, parents, routes, shortness. Assumes nothing.
use mathlib.Core.Path.{◌≡◌, refl}
use mathlib.Core.Bool.{Bool, true, false, not}
use Prim.Native.Nat.{ℕ, ◌<◌, ◌≤◌}
use lib.Dec.{eqb, leb, ltb}
use borrow.Author.Tests.{eqb-false, leb-false, ltb-false, not-false}
use Rattle.edition.specs.Limits.{node_limit, link_limit, depth_limit, whole_search, memory_limits}
use Rattle.rows.specs.Lists.{differ}
use Rattle.rows.proofs.Tests.{clash, or3_false}
use Rattle.network.specs.Network.{Net, in_service, touches}
use Rattle.network.specs.Records.{bad_root, bad_depth, bad_ends, unfit, bad_parent}
use Rattle.network.proofs.Sizes.{nodes-within, links-within}
use Rattle.tree.specs.Tree.{tree_of, under, on_path}
use Rattle.tree.proofs.Ways.{Home}
use Rattle.tree.proofs.Meeting.{on_path_lem}
use Rattle.sound.specs.Sound.{short, not_short}
use Rattle.sound.proofs.Sounds.{Sound}
use Rattle.sound.proofs.Closing.{parent-node}

-- a bad depth is over the limit and not the whole search
whole_or_few : (depth : ℕ) → bad_depth memory_limits depth ≡ false → (b : Bool) → eqb depth whole_search ≡ b → b ≡ false → depth ≤ depth_limit
unfolding bad_depth
whole_or_few depth h b e f = ltb-false depth_limit depth (sized (ltb depth_limit depth) refl)
  where
    sized : (c : Bool) → ltb depth_limit depth ≡ c → ltb depth_limit depth ≡ false
    sized false q = q
    sized true q = clash (rw (q, e, f)) h

module _ (g : Net) (s : Sound g) where
  pub nodes-few : g.nodes ≤ node_limit
  nodes-few = nodes-within memory_limits g.nodes s.sized.nodes-ok

  pub links-few : g.links ≤ link_limit
  links-few = links-within memory_limits g.links s.sized.links-ok

  pub root_in : g.search.root < g.nodes
  unfolding bad_root
  root_in = leb-false g.nodes g.search.root s.sized.root_ok

  pub depth_few : eqb g.search.depth whole_search ≡ false → g.search.depth ≤ depth_limit
  depth_few e = whole_or_few g.search.depth s.sized.depth_ok false e refl

  ends_say :
      (e : ℕ)
      → e < g.links
      → (leb g.nodes (g.link e).first ≡ false)
      × (leb g.nodes (g.link e).second ≡ false) × (eqb (g.link e).first (g.link e).second ≡ false)
  unfolding bad_ends
  ends_say e l =
      or3_false (leb g.nodes (g.link e).first) (leb g.nodes (g.link e).second) (eqb (g.link e).first (g.link e).second)
      (s.recorded.ends_ok e l)

  -- both ends of a link are nodes, and they differ
  pub first_in : (e : ℕ) → e < g.links → (g.link e).first < g.nodes
  first_in e l = leb-false g.nodes (g.link e).first (ends_say e l).0

  pub second_in : (e : ℕ) → e < g.links → (g.link e).second < g.nodes
  second_in e l = leb-false g.nodes (g.link e).second (ends_say e l).1

  pub ends_differ : (e : ℕ) → e < g.links → (g.link e).first ≡ (g.link e).second → ⊥
  ends_differ e l = eqb-false (g.link e).first (g.link e).second (ends_say e l).2

  module _ (u : ℕ) (l : u < g.nodes) (r : eqb u g.search.root ≡ false) where
    parent_says : (leb g.links (g.parent u) ≡ false) × (not (in_service (g.link (g.parent u))) ≡ false) × (not (touches (g.link (g.parent u)) u) ≡ false)
    unfolding bad_parent unfit
    parent_says =
        or3_false (leb g.links (g.parent u)) (not (in_service (g.link (g.parent u)))) (not (touches (g.link (g.parent u)) u))
        (rw r at (s.recorded.parents-ok u l))

    -- the parent link of a node that is not the root is a link, in service, and touches the node
    pub parent_in : g.parent u < g.links
    parent_in = leb-false g.links (g.parent u) parent_says.0

    pub parent-serves : in_service (g.link (g.parent u)) ≡ true
    parent-serves = not-false (in_service (g.link (g.parent u))) parent_says.1

    pub parent-touches : touches (g.link (g.parent u)) u ≡ true
    parent-touches = not-false (touches (g.link (g.parent u)) u) parent_says.2

  -- every node has a route
  pub home : (u : ℕ) → u < g.nodes → Home (tree_of g) u
  home u l = s.recorded.routes_ok u l

  -- the parent of a node is a node
  pub up_in : (u : ℕ) → u < (tree_of g).size → (tree_of g).up u < (tree_of g).size
  up_in = parent-node g s.recorded.ends_ok s.recorded.parents-ok

  -- exactly one end of a link is in T(x) where the tree link of x lies on the tree path between the ends, and nowhere else
  pub link_path :
      (e x : ℕ)
      → e < g.links
      → on_path (tree_of g) (g.link e).first (g.link e).second x
      ≡ differ (under (tree_of g) x (g.link e).first) (under (tree_of g) x (g.link e).second)
  link_path e x l = on_path_lem (tree_of g) _ _ x (home _ (first_in e l)) (home _ (second_in e l))

  -- a link in service keeps the two inequalities
  pub link-short : (e : ℕ) → e < g.links → in_service (g.link e) ≡ true → short (tree_of g) (g.link e).first (g.link e).second (g.link e).length ≡ true
  unfolding not_short
  link-short e l q = not-false _ (rw q at (s.recorded.short_ok e l))
