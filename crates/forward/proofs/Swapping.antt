-- The swap link of a cut off start: what its entry's link and mark say of its ends, and that the way around by it is the detour.
-- Assumes nothing.
use mathlib.Core.Path.{◌≡◌, refl, ap, ◌∙◌}
use mathlib.Core.Bool.{Bool, true, false}
use Prim.Native.Nat.{ℕ, ◌<◌}
use lib.ListN.{length}
use Rattle.edition.specs.Entries.{swap_state, swap_by}
use Rattle.network.specs.declared.Link.{Link}
use Rattle.network.specs.Network.{Net}
use Rattle.tree.specs.Tree.{Tree, tree_of, route, under}
use Rattle.sound.proofs.Holding.{first_in, second_in}
use Rattle.swap.specs.Swap.{inner_end, outer_end, lower_mark, crosses}
use Rattle.swap.specs.Entry.{entry}
use Rattle.swap.proofs.Costing.{crossing_splits, of_inner, of_outer}
use Rattle.swap.proofs.Choosing.{Chosen}
use Rattle.swap.proofs.Stating.{candidate-crosses, entry-holds}
use Rattle.forward.specs.declared.Ask.{Ask}
use Rattle.forward.specs.Forward.{cut_off, swap_link, lower_end, upper_end, around, detour, listed, steps}
use Rattle.forward.specs.Answers.{way}
use Rattle.forward.specs.Work.{Node, over_by, Around, route_way, around_way}
use Rattle.forward.proofs.Nodes.{fine, to_top}
use Rattle.forward.proofs.Lengths.{steps-long, around-steps}

-- the mark of the lower end leads from z to z'
over_ends : (t : Tree) (x : ℕ) (l : Link) → over_by l (lower_mark t x l) ≡ record { from = inner_end t x l; to = outer_end t x l; length = l.length }
unfolding over_by lower_mark inner_end outer_end
over_ends t x l = go (under t x l.first) refl
  where
    go : (b : Bool) → under t x l.first ≡ b → over_by l (lower_mark t x l) ≡ record { from = inner_end t x l; to = outer_end t x l; length = l.length }
    go true e = rw e
    go false e = rw e

module _ (g : Net) (a : Ask) (u : Node g a.start) (x : Node g a.failed) where
  -- the ordinary route's count and length
  pub route-way : cut_off g a ≡ false → way g a ≡ route_way (tree_of g) a.start
  unfolding way route_way listed steps
  route-way c =
      rw c
      (ap (λ (k : ℕ). record { nodes = length (route (tree_of g) a.start); length = k })
      (steps-long g (tree_of g).root a.start (to_top g u)))

  pub route-listed : cut_off g a ≡ false → listed g a ≡ route (tree_of g) a.start
  unfolding listed
  route-listed c = rw c

  -- a start that is cut off, of a node that has a swap link
  module _ (c : cut_off g a ≡ true) (far : a.failed ≡ (tree_of g).root → ⊥) (s : (entry g a.failed).state ≡ swap_state) where
    pub stands : Chosen a.measure g a.failed (swap_link g a)
    unfolding swap_link
    stands = (entry-holds g a.failed a.measure s).0

    pub crossing : crosses (tree_of g) a.failed (swap_link g a) (g.link (swap_link g a)) ≡ true
    crossing = candidate-crosses g a.failed (swap_link g a) stands.stands

    pub over-is :
        over_by (g.link (swap_by (entry g a.failed) a.measure).link) (swap_by (entry g a.failed) a.measure).lower
        ≡ record { from = lower_end g a; to = upper_end g a; length = (g.link (swap_link g a)).length }
    unfolding lower_end upper_end swap_link
    over-is =
        ap (over_by (g.link (swap_by (entry g a.failed) a.measure).link)) (entry-holds g a.failed a.measure s).2
        ∙ over_ends (tree_of g) a.failed (g.link (swap_by (entry g a.failed) a.measure).link)

    node_of : {v : ℕ} → v < g.nodes → Node g v
    node_of l = record { is_taken = u.is_taken; low = l }

    pub cut_around : Around g a.failed a.start (lower_end g a) (upper_end g a)
    unfolding cut_off lower_end upper_end
    cut_around =
        let l = g.link (swap_link g a) in
        let split = crossing_splits (tree_of g) a.failed l (swap_link g a) crossing in
        let one = node_of (first_in g (fine g u) (swap_link g a) stands.low) in
        let two = node_of (second_in g (fine g u) (swap_link g a) stands.low) in
        record {
          start = record { node = u; on = c };
          down = record { node = of_inner (tree_of g) a.failed l (Node g) one two; on = split.0 };
          rest = of_outer (tree_of g) a.failed l (Node g) one two;
          out = split.1;
          below = far;
        }

    pub detour-way : way g a ≡ around_way (tree_of g) a.failed (lower_end g a) (upper_end g a) (g.link (swap_link g a)).length a.start
    unfolding way around_way listed steps detour
    detour-way =
        rw c
        (ap (λ (k : ℕ). record { nodes = length (around (tree_of g) a.failed (lower_end g a) (upper_end g a) a.start); length = k })
        (around-steps g (swap_link g a) cut_around (to_top g cut_around.rest)))

    pub detour-listed : listed g a ≡ around (tree_of g) a.failed (lower_end g a) (upper_end g a) a.start
    unfolding listed detour
    detour-listed = rw c
