-- The test of shortness of a change, by a survey. Assumes nothing.
use mathlib.Core.Path.{◌≡◌, ap, ◌∙◌}
use mathlib.Core.Bool.{Bool, false, not}
use mathlib.Core.List.{List}
use Prim.Native.Nat.{ℕ, ◌<◌}
use native.Mathlib.Omega.{arith}
use borrow.Author.Tests.{eq-eqb, ne_eqb}
use Rattle.edition.specs.declared.Change.{Change}
use Rattle.edition.specs.declared.Search.{Search}
use Rattle.edition.specs.Limits.{served}
use Rattle.network.specs.declared.Link.{Link}
use Rattle.network.specs.Network.{Net, link_in, net_of}
use Rattle.tree.specs.Tree.{tree_of, dist}
use Rattle.survey.specs.declared.Known.{Known}
use Rattle.survey.specs.Known.{known}
use Rattle.survey.specs.Row.{nodes_in, known_at}
use Rattle.sound.specs.Sound.{keeps_short, short}
use Rattle.sound.proofs.Sounds.{Sound, sound}
use Rattle.sound.proofs.Holding.{first_in, second_in}
use Rattle.change.specs.Change.{breaks}
use Rattle.change.specs.Work.{Short}

module _ (links parents : List ℕ) (search : Search) where
  abbrev g : Net
  g = net_of links parents search

  pub withdrawn-fits : (c : Change) → (c.mark ≡ served → ⊥) → false ≡ breaks g c
  unfolding breaks
  withdrawn-fits c n = rw (ne_eqb c.mark served n)

  module _ (survey : List ℕ) (c : Change) (s : Short links parents search survey c) (l : Link) (is : l ≡ link_in links c.link) where
    fine : Sound g
    fine = sound g s.surveyed.is_taken

    first-node : l.first < g.nodes
    unfolding net_of
    first-node = rw is (first_in g fine c.link s.there)

    second_node : l.second < g.nodes
    unfolding net_of
    second_node = rw is (second_in g fine c.link s.there)

    -- both ends have a record
    pub first-known : l.first < nodes_in survey
    first-known = omega (arith, first-node, s.surveyed.room)

    pub second_known : l.second < nodes_in survey
    second_known = omega (arith, second_node, s.surveyed.room)

    near_is : (x : ℕ) → x < g.nodes → (k : Known) → k ≡ known_at survey x → k.near ≡ dist (tree_of g) x
    unfolding known
    near_is x h k e = ap (λ (r : Known). r.near) (e ∙ s.surveyed.each x h)

    -- the two inequalities, by the records of the ends
    pub breaks-is :
        c.mark ≡ served
        → (p : Known) → p ≡ known_at survey l.first → (q : Known) → q ≡ known_at survey l.second → (k : Bool)
        → k ≡ keeps_short p.near q.near c.length → not k ≡ breaks g c
    unfolding breaks short net_of
    breaks-is serves p ep q eq k ek =
        rw (eq-eqb c.mark served serves, ← is, ek, near_is l.first first-node p ep, near_is l.second second_node q eq)
