-- The lengths of steps: over the steps up a tree it is the length of the way, and over those around it is up, down, across and on.
-- Assumes nothing.
use mathlib.Core.Path.{◌≡◌, refl, ap}
use mathlib.Core.Bool.{true, false}
use mathlib.Core.List.{List, [], ◌∷◌, ◌++◌, map, reverse, reverse-cons}
use Prim.Native.Nat.{ℕ, ◌+◌}
use native.Mathlib.Omega.{arith}
use lib.Dec.{eqb}
use Rattle.rows.specs.Lists.{has, up_to, total}
use Rattle.rows.proofs.Tests.{clash, either}
use Rattle.rows.proofs.Listed.{total-append, up_to-here, up_to-past}
use Rattle.network.specs.Network.{Net}
use Rattle.tree.specs.Tree.{Tree, tree_of, under, way_up}
use Rattle.tree.proofs.Ways.{Way, top, hop, way}
use Rattle.forward.specs.Forward.{steps_up, steps_around, length_of}
use Rattle.forward.specs.Work.{Upward, Around}
use Rattle.forward.proofs.Nodes.{homed}

-- a list backwards adds up to the same
total-reverse : (f : ℕ → ℕ) (r : List ℕ) → total f (reverse r) ≡ total f r
unfolding total
total-reverse f [] = refl
total-reverse f (u ∷ r) =
    omega (
      arith,
      ap (total f) (reverse-cons u r),
      total-append f (reverse r) (u ∷ []),
      total-reverse f r,
    )

module _ (g : Net) where
  abbrev t : Tree
  t = tree_of g

  -- the parent link of a node that is not the root is as long as the step up from it
  step-long : (u : ℕ) → eqb u t.root ≡ false → (g.link (t.link u)).length ≡ t.rise u
  unfolding tree_of
  step-long u e = rw e

  way_long : {u : ℕ} {r : List ℕ} (c : ℕ) → Way t u r → has c r ≡ true → length_of g (map t.link (up_to c r)) ≡ total t.rise (up_to c r)
  unfolding has total length_of
  way_long c (top {u} e) h = either (eqb u c) false h (λ q. rw (up_to-here u c [] q)) (λ q m. clash m refl)
  way_long c (hop {u} {r} e w) h =
      either (eqb u c) (has c r) h
      (λ q. rw (up_to-here u c r q))
      (λ q m. rw (up_to-past u c r q) (omega (arith, step-long u e, way_long c w m)))

  -- the steps up from u to c are as long as the way
  pub steps-long : (c u : ℕ) → Upward g c u → length_of g (steps_up t c u) ≡ way_up t c u
  unfolding steps_up way_up under
  steps-long c u w = way_long c (way t u (homed g w.node)) w.on

  around_parts :
      (a b d : List ℕ) (e : ℕ) → length_of g (a ++ (reverse b ++ (e ∷ d))) ≡ length_of g a + length_of g b + (g.link e).length + length_of g d
  unfolding length_of total
  around_parts a b d e =
      let f : ℕ → ℕ = λ k. (g.link k).length in
      omega (
        arith,
        total-append f a (reverse b ++ (e ∷ d)),
        total-append f (reverse b) (e ∷ d),
        total-reverse f b,
      )

  -- those around: up, down, across and on
  pub around-steps :
      {x u z z' : ℕ} (e : ℕ)
      → Around g x u z z' → Upward g t.root z'
      → length_of g (steps_around t x e z z' u) ≡ way_up t x u + way_up t x z + (g.link e).length + way_up t t.root z'
  unfolding steps_around
  around-steps {x} {u} {z} {z'} e w r =
      omega (
        arith,
        around_parts (steps_up t x u) (steps_up t x z) (steps_up t t.root z') e,
        steps-long x u w.start,
        steps-long x z w.down,
        steps-long t.root z' r,
      )
