-- What 1 and 2 leave: no more nodes and links than the limits; and what passes at some limits passes at larger ones. Assumes nothing.
use mathlib.Core.Path.{◌≡◌, refl}
use mathlib.Core.Bool.{Bool, true, false, not, ◌&&◌}
use Prim.Native.Nat.{ℕ, ◌≤◌}
use native.Mathlib.Omega.{arith}
use lib.Dec.{eqb, ltb}
use borrow.Author.Tests.{ltb-false, le-ltb}
use Rattle.edition.specs.declared.Limits.{Limits}
use Rattle.edition.specs.declared.Search.{Search}
use Rattle.edition.specs.Refusals.{taken}
use Rattle.edition.specs.declared.Why.TheVariants.{NodeCount, LinkCount, BadDepth}
use Rattle.edition.specs.Limits.{whole_search}
use Rattle.edition.proofs.Within.{Within}
use Rattle.rows.proofs.Refusing.{head_taken, rest-taken, if_taken_lem, if_passes, both_taken}
use Rattle.rows.proofs.Tests.{or_false, and_none}
use Rattle.network.specs.Records.{bad_nodes, bad_links, bad_depth, size_verdict}

pub nodes-within : (most : Limits) (n : ℕ) → bad_nodes most n ≡ false → n ≤ most.nodes
unfolding bad_nodes
nodes-within most n h = ltb-false most.nodes n (or_false (eqb n 0) (ltb most.nodes n) h).1

pub links-within : (most : Limits) (m : ℕ) → bad_links most m ≡ false → m ≤ most.links
unfolding bad_links
links-within most m h = ltb-false most.links m h

-- the same of 1 to 4 and 14
module _ (most : Limits) (n m : ℕ) (search : Search) (t : size_verdict most n m search ≡ taken) where
  pub sized-nodes : n ≤ most.nodes
  unfolding size_verdict
  sized-nodes = nodes-within most n (if_taken_lem _ NodeCount 0 (head_taken _ _ t))

  pub sized-links : m ≤ most.links
  unfolding size_verdict
  sized-links = links-within most m (if_taken_lem _ LinkCount 0 (head_taken _ _ (rest-taken _ _ t)))

-- what passes 1 to 4 and 14 at some limits passes them at larger ones
module _ (small large : Limits) (w : Within small large) where
  nodes_grow : (n : ℕ) → bad_nodes small n ≡ false → bad_nodes large n ≡ false
  unfolding bad_nodes
  nodes_grow n h =
      let z = or_false (eqb n 0) (ltb small.nodes n) h in
      rw z.0 (le-ltb large.nodes n (omega (arith, w.nodes, ltb-false small.nodes n z.1)))

  links_grow : (m : ℕ) → bad_links small m ≡ false → bad_links large m ≡ false
  unfolding bad_links
  links_grow m h = le-ltb large.links m (omega (arith, w.links, ltb-false small.links m h))

  depth_grows : (d : ℕ) → bad_depth small d ≡ false → bad_depth large d ≡ false
  unfolding bad_depth
  depth_grows d h = go (ltb small.depth d) refl
    where
      go : (b : Bool) → ltb small.depth d ≡ b → (ltb large.depth d && not (eqb d whole_search)) ≡ false
      go true e = rw (rw e at h) (and_none (ltb large.depth d))
      go false e = rw (le-ltb large.depth d (omega (arith, w.depth, ltb-false small.depth d e)))

  pub sizes_grow : (n m : ℕ) (search : Search) → size_verdict small n m search ≡ taken → size_verdict large n m search ≡ taken
  unfolding size_verdict
  sizes_grow n m search t =
      let t2 = rest-taken _ _ t in
      let t3 = rest-taken _ _ t2 in
      let t4 = rest-taken _ _ t3 in
      both_taken _ _ (if_passes _ NodeCount 0 (nodes_grow n (if_taken_lem _ NodeCount 0 (head_taken _ _ t))))
      (both_taken _ _ (if_passes _ LinkCount 0 (links_grow m (if_taken_lem _ LinkCount 0 (head_taken _ _ t2))))
      (both_taken _ _ (head_taken _ _ t3)
      (both_taken _ _ (if_passes _ BadDepth 0 (depth_grows search.depth (if_taken_lem _ BadDepth 0 (head_taken _ _ t4)))) (rest-taken _ _ t4))))
