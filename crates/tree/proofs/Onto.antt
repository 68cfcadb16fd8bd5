-- The climb onto a row that has the root: it ends at the first node of the route that is in the row. Assumes nothing.
use Rattle.std.proofs.Common.{◌≡◌, ℕ, ◌<◌, ◌≤◌, Bool, true, false, not, ◌||◌, eqb, List, [], ◌∷◌, ◌++◌, length, get_or, sym, refl, ap, ◌∙◌, subst, arith}
use Rattle.std.proofs.Common.{eqb-true}
use borrow.Author.Tests.{not-true, not-false}
use Rattle.edition.specs.declared.Search.{Search}
use Rattle.edition.specs.Limits.{node_limit, longest}
use Rattle.rows.specs.Lists.{has, up_to}
use Rattle.rows.proofs.Tests.{clash, either}
use Rattle.rows.proofs.Listed.{has-append}
use Rattle.tree.specs.declared.Climb.{Climb}
use Rattle.tree.specs.Tree.{Tree, route, under}
use Rattle.tree.specs.Answers.{begun, stepped}
use Rattle.tree.specs.Work.{Along}
use Rattle.tree.proofs.Ways.{Home}
use Rattle.tree.proofs.Climbing.{way_on, along-start, along-step, shorter, start-cut}
use Rattle.tree.proofs.InRows.{tree_in, size_in, off_root, few}

-- a climb from u that has come to the first node of its route that is in a row
pub record Onto (t : Tree) (u : ℕ) (row : List ℕ) (c : Climb) : Type 0 where
  pub along : Along t u c
  pub here : has c.node row ≡ true
  pub none : (y : ℕ) → has y (up_to c.node (route t u)) ≡ true → has y row ≡ false

-- a climb from u that has met no node of the row yet
pub record Onward (t : Tree) (u : ℕ) (row : List ℕ) (c : Climb) : Type 0 where
  pub along : Along t u c
  pub none : (y : ℕ) → has y (up_to c.node (route t u)) ≡ true → has y row ≡ false

module _ (links parents : List ℕ) (search : Search) (held : (i : ℕ) → get_or links i 0 ≤ longest)
    (small : length parents ≤ node_limit) (row : List ℕ) (u : ℕ) (hu : Home (tree_in links parents search) u) where
  pub onward_start : (c : Climb) → c ≡ begun u → Onward (tree_in links parents search) u row c
  unfolding begun has
  onward_start c q =
      record {
        along = along-start (tree_in links parents search) u hu c q;
        none = rw q (λ y m. clash (rw (start-cut (tree_in links parents search) u hu) at m) refl);
      }

  module _ (c : Climb) (o : Onward (tree_in links parents search) u row c) where
    pub onward_end : (b : Bool) → b ≡ has c.node row → not b ≡ false → Onto (tree_in links parents search) u row c
    onward_end b q e = record { along = o.along; here = sym q ∙ not-false b e; none = o.none }

    module _ (top : has search.root row ≡ true) (b : Bool) (q : b ≡ has c.node row) (e : not b ≡ true) where
      out : has c.node row ≡ false
      out = sym q ∙ not-true b e

      away : eqb c.node (tree_in links parents search).root ≡ false
      away = off_root links parents search c.node (λ z. clash top (subst (λ (v : ℕ). has v row ≡ false) z out))

      on : under (tree_in links parents search) c.node u ≡ true
      on = o.along.on

      module _ (d : Climb) (s : d ≡ stepped (tree_in links parents search) c) where
        next : d.node ≡ (tree_in links parents search).up c.node
        unfolding stepped
        next = ap (λ (x : Climb). x.node) s

        passed : (y : ℕ) → has y (up_to c.node (route (tree_in links parents search) u) ++ (c.node ∷ [])) ≡ true → has y row ≡ false
        unfolding has
        passed y m =
            either (has y (up_to c.node (route (tree_in links parents search) u))) (eqb c.node y || false)
            (sym (has-append y (up_to c.node (route (tree_in links parents search) u)) (c.node ∷ [])) ∙ m)
            (λ p. o.none y p)
            (λ p n. either (eqb c.node y) false n (λ z. subst (λ (v : ℕ). has v row ≡ false) (eqb-true c.node y z) out) (λ z k. clash k refl))

        pub onward_more : Onward (tree_in links parents search) u row d
        onward_more =
            record {
              along =
                  along-step (tree_in links parents search) u hu c.node on away (rw (size_in links parents search) small)
                  (few links parents search held) c refl o.along d s;
              none =
                  rw (next, way_on (tree_in links parents search) u hu c.node on away) passed;
            }

        pub onward_less : length (route (tree_in links parents search) d.node) < length (route (tree_in links parents search) c.node)
        onward_less = rw next (omega (arith, shorter (tree_in links parents search) u hu c.node on away))
