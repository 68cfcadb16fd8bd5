-- An order in the first numbers of a row is an order in those alone. Assumes nothing.
use mathlib.Core.Path.{◌≡◌, ap, ◌∙◌}
use mathlib.Core.List.{List}
use Prim.Native.Nat.{ℕ}
use native.Mathlib.Omega.{arith}
use lib.ListN.{length, take}
use lib.Seq.{length-take-le}
use Rattle.std.proofs.lemmas.List.{get_or-take}
use Rattle.tree.specs.Tree.{Tree}
use Rattle.survey.specs.Work.{Order}

module _ (t : Tree) (row : List ℕ) (o : Order t row) where
  pub front-size : length (take t.size row) ≡ t.size
  front-size = length-take-le t.size row o.room

  pub order_front : Order t (take t.size row)
  order_front =
      record {
        closed = o.closed;
        room = omega (arith, front-size);
        place = o.place;
        node = λ i l. rw (get_or-take t.size row i 0 l) (o.node i l);
        here = λ i l. ap o.place (get_or-take t.size row i 0 l) ∙ o.here i l;
        within = o.within;
        there = λ u l. get_or-take t.size row (o.place u) 0 (o.within u l) ∙ o.there u l;
        first = o.first;
        above = o.above;
        home = o.home;
      }
