-- What private functions of this crate promise each other. No public promise cites this page. Assumes nothing.
use Rattle.std.specs.Prelude.{◌≡◌, ℕ, ◌*◌, ◌≤◌, true, List}
use Rattle.std.proofs.lemmas.List.Edits.{sets}
use Rattle.edition.specs.Limits.{longest}
use Rattle.rows.specs.Lists.{total}
use Rattle.tree.specs.declared.Climb.{Climb}
use Rattle.tree.specs.Tree.{Tree, climb, dist, under, hops, way_up}

-- a climb from u that has come to the root, or as far as the route goes
pub record Rooted (t : Tree) (u : ℕ) (c : Climb) : Type 0 where
  pub hops-is : c.hops ≡ hops t t.root u
  pub dist-is : c.dist ≡ dist t u

-- the nodes of a climb written from a place on, and its length
pub record Routed (t : Tree) (left u at : ℕ) (before : List ℕ) (r : ℕ) (after : List ℕ) : Type 0 where
  pub length-is : r ≡ total t.rise (climb t left u)
  pub small : r ≤ left * longest
  pub row_is : after ≡ sets before at (climb t left u)

-- a climb from u that has come to c
pub record Along (t : Tree) (u : ℕ) (c : Climb) : Type 0 where
  pub on : under t c.node u ≡ true
  pub hops-is : c.hops ≡ hops t c.node u
  pub dist-is : c.dist ≡ way_up t c.node u
