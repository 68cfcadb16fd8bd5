-- The climb to x or the root: where it ends, and that nothing it counts is large. Assumes nothing.
use mathlib.Core.Path.{◌≡◌, refl, sym, subst, ◌∙◌}
use mathlib.Core.Bool.{Bool, true, false, cond, ◌||◌}
use mathlib.Core.List.{List, [], ◌∷◌}
use Prim.Native.Nat.{ℕ, ◌*◌, ◌<◌, ◌≤◌}
use native.Mathlib.Omega.{arith}
use lib.Dec.{eqb}
use lib.ListN.{get_or}
use borrow.Author.Tests.{eqb-true, eqb-false, eq-eqb}
use Rattle.edition.specs.declared.Search.{Search}
use Rattle.edition.specs.Limits.{node_limit, longest}
use Rattle.rows.specs.Lists.{has, up_to}
use Rattle.rows.proofs.Tests.{clash, either, or_right}
use Rattle.network.specs.Network.{net_of}
use Rattle.tree.specs.declared.Climb.{Climb}
use Rattle.tree.specs.Tree.{Tree, route, under}
use Rattle.tree.proofs.Ways.{Home, above_root, under-cut, under-root}
use Rattle.tree.proofs.Climbing.{along-few, along-short}
use Rattle.tree.proofs.InRows.{tree_in, root_in, few}
use Rattle.tree.proofs.Onto.{Onto}
use Rattle.forward.specs.Work.{Node, Reached}
use Rattle.forward.proofs.Nodes.{homed, size_few, top}

-- the two nodes that end a climb
abbrev pub ends : ℕ → ℕ → List ℕ
ends root x = x ∷ root ∷ []

pub top_ends : (root x : ℕ) → has root (ends root x) ≡ true
unfolding has
top_ends root x = or_right (eqb x root) (eqb root root || false) (rw (eq-eqb root root refl))

module _ (links parents : List ℕ) (search : Search) (held : (i : ℕ) → get_or links i 0 ≤ longest) (x u : ℕ)
    (n : Node (net_of links parents search) u) where
  abbrev t : Tree
  t = tree_in links parents search

  hu : Home t u
  hu = homed (net_of links parents search) n

  module _ (c : Climb) (o : Onto t u (ends t.root x) c) where
    on : under t c.node u ≡ true
    on = o.along.on

    at_end : (c.node ≡ x → ⊥) → c.node ≡ t.root
    unfolding has
    at_end k =
        either (eqb x c.node) (eqb t.root c.node || false) o.here
        (λ q. absurd (k (sym (eqb-true x c.node q))))
        (λ q r. either (eqb t.root c.node) false r (λ s. sym (eqb-true t.root c.node s)) (λ s m. clash m refl))

    -- x is passed nowhere
    met : under t x u ≡ true → c.node ≡ t.root → x ≡ c.node
    unfolding has
    met p q =
        either (has x (up_to t.root (route t u))) (under t x t.root) (sym (under-cut t u t.root x hu (under-root t u hu)) ∙ p)
        (λ m. clash (rw (eq-eqb x x refl)) (o.none x (subst (λ (v : ℕ). has x (up_to v (route t u)) ≡ true) (sym q) m)))
        (λ m k. above_root t x (homed (net_of links parents search) (top (net_of links parents search) n)) k ∙ sym q)

    here-is : c.node ≡ cond (under t x u) x t.root
    here-is = go (under t x u) refl (eqb c.node x) refl
      where
        go : (b : Bool) → under t x u ≡ b → (e : Bool) → eqb c.node x ≡ e → c.node ≡ cond b x t.root
        go true p true q = eqb-true c.node x q
        go true p false q = sym (met p (at_end (eqb-false c.node x q)))
        go false p true q = clash (subst (λ (v : ℕ). under t v u ≡ true) (eqb-true c.node x q) on) p
        go false p false q = at_end (eqb-false c.node x q)

    hops-few : c.hops < node_limit
    hops-few = omega (arith, along-few t u hu c o.along, size_few (net_of links parents search) n)

    dist-small : c.dist ≤ node_limit * longest
    dist-small = omega (arith, along-short t u hu c o.along (few links parents search held), hops-few)

    reached_top : Reached t x u c
    reached_top = record { along = o.along; here = here-is; few = hops-few; small = dist-small }

  -- the same in the words of the code
  pub reached : (c : Climb) → Onto t u (ends search.root x) c → Reached t x u c
  reached c o = reached_top c (subst (λ (r : ℕ). Onto t u (ends r x) c) (sym (root_in links parents search)) o)
