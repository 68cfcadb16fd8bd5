-- The walk down that begins every record: a node's distance is its parent's, which is there already, and the length of its link.
-- Assumes nothing.
use mathlib.Core.Path.{◌≡◌, refl, sym, subst, ap, ◌∙◌}
use mathlib.Core.List.{List}
use Prim.Native.Nat.{ℕ, ◌+◌, ◌/◌, ◌^◌, ◌<◌, ◌≤◌}
use native.Mathlib.Omega.{arith}
use lib.ListN.{get_or}
use borrow.Author.Tests.{eq-eqb, ne_eqb}
use Rattle.edition.specs.declared.Search.{Search}
use Rattle.edition.specs.Limits.{longest, no_link}
use Rattle.network.specs.declared.Link.{Link}
use Rattle.network.specs.Network.{net_of, link_in, other_end}
use Rattle.tree.specs.Tree.{Tree, tree_of, dist}
use Rattle.tree.proofs.Ways.{dist-step, dist-root}
use Rattle.tree.proofs.Made.{rise-flat}
use Rattle.tree.proofs.InRows.{tree_in, root_in, at_root, off_root, few}
use Rattle.survey.specs.declared.Known.{Known}
use Rattle.survey.specs.Row.{known_width, nodes_in, known_at, put_known}
use Rattle.survey.specs.Work.{Order, Held, Split, Under, Begun}
use Rattle.survey.proofs.Holding.{Walk, held_as, split_down}
use Rattle.survey.proofs.Stems.{near_few}

-- nothing is said of a record yet
abbrev pub Unsaid : ℕ → Known → Type 0
Unsaid u k = k ≡ k

module _ (t : Tree) (order : List ℕ) (o : Order t order) (before : List ℕ) where
  module _ (i : ℕ) (row : List ℕ) (s : Walk t before 0 (Split (Begun t) Unsaid o.place) i row) where
    pub begin_end : t.size ≤ i → Held t.size before (Begun t) row
    begin_end l =
        held_as t.size before (Split (Begun t) Unsaid o.place i) row s.held (Begun t) (λ u m z. z.below (omega (arith, o.within u m)))

    module _ (l : i < t.size) where
      pub begin_under : Under t row (get_or order i 0)
      begin_under =
          let v = get_or order i 0 in
          let inside = o.closed.up_in v (o.node i l) in
          record {
            few = o.closed.few;
            room = omega (arith, s.held.room, ap (λ (k : ℕ). k / known_width) s.held.same);
            node = o.node i l;
            home = o.home v (o.node i l);
            up-node = inside;
            up_is = λ r. ((s.held.each (t.up v) inside).below (omega (arith, o.above v (o.node i l) r, o.here i l))).near_is;
          }

      pub begin_more :
          (k : Known)
          → Begun t (get_or order i 0) k → (after : List ℕ) → after ≡ put_known row (get_or order i 0) k
          → Walk t before 0 (Split (Begun t) Unsaid o.place) (i + 1) after
      begin_more k b after e =
          record {
            some = omega arith;
            low = omega arith;
            held =
                subst (Held t.size before (Split (Begun t) Unsaid o.place (i + 1))) (sym e)
                (split_down t order o before (Begun t) Unsaid i row s.held l k b);
          }

-- in the words of the code
module _ (links parents : List ℕ) (search : Search) (row : List ℕ) (v : ℕ) (s : Under (tree_in links parents search) row v) where
  abbrev t : Tree
  t = tree_in links parents search

  module _ (e : v ≡ search.root) where
    near_root : 0 ≡ dist t v
    near_root =
        let top = at_root links parents search v e in
        sym (dist-root t v s.home top (rise-flat _ v top))

    up_root : v ≡ t.up v
    unfolding tree_of net_of
    up_root = rw (eq-eqb v search.root e)

    pub begun-root : Begun (tree_in links parents search) v (record { up = v; near = 0; count = 1; base = 0; turn = 0; deep = 0; beside = 0 })
    begun-root =
        record {
          up_is = up_root;
          near_is = near_root;
          count-is = refl;
          base-is = near_root;
          turn_is = refl;
          deep_is = near_root;
          beside-is = refl;
        }

  module _ (off : v ≡ search.root → ⊥) (e : ℕ) (named : e ≡ get_or parents v no_link) (l : Link) (is : l ≡ link_in links e)
      (p : ℕ) (other : p ≡ other_end l v) where
    up_off : p ≡ t.up v
    unfolding tree_of net_of
    up_off = rw (ne_eqb v search.root off, ← named, ← is) other

    rise_off : l.length ≡ t.rise v
    unfolding tree_of net_of
    rise_off = rw (ne_eqb v search.root off, ← named, ← is)

    pub above_in : p < nodes_in row
    above_in = omega (arith, up_off, s.up-node, s.room)

    module _ (k : Known) (known : k ≡ known_at row p) where
      near_is : k.near ≡ dist t (t.up v)
      near_is = ap (λ (a : Known). a.near) known ∙ ap (λ (y : ℕ). (known_at row y).near) up_off ∙ s.up_is (λ z. off (z ∙ root_in links parents search))

      pub near_fits : ((i : ℕ) → get_or links i 0 ≤ longest) → k.near + l.length < 2 ^ 64
      near_fits held =
          omega (
            arith,
            near_is,
            near_few t s.few (few links parents search held) (t.up v),
            rise_off,
            few links parents search held v,
          )

      near_sum : k.near + l.length ≡ dist t v
      near_sum = omega (arith, near_is, rise_off, dist-step t v s.home (off_root links parents search v off))

      pub begun_off :
          Begun (tree_in links parents search) v
          (record {
            up = p;
            near = k.near + l.length;
            count = 1;
            base = k.near + l.length;
            turn = 0;
            deep = k.near + l.length;
            beside = 0;
          })
      begun_off =
          record {
            up_is = up_off;
            near_is = near_sum;
            count-is = refl;
            base-is = near_sum;
            turn_is = refl;
            deep_is = near_sum;
            beside-is = refl;
          }
