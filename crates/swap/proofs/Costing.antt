-- Costs: no node comes nearer by a swap, so N(u) - d(u) is never cut off at 0; what is lost is most at the failed node itself,
-- so incr is N(x) - d(x). Assumes nothing.
use mathlib.Core.Path.{◌≡◌, refl}
use mathlib.Core.Bool.{Bool, true, false, not, ◌&&◌}
use Prim.Native.Nat.{ℕ, ◌+◌, ◌-◌, ◌<◌, ◌≤◌}
use native.Mathlib.Nat.{le_antisymm}
use native.Mathlib.Omega.{arith}
use lib.Dec.{eqb, leb}
use borrow.Author.Tests.{leb-true}
use Rattle.edition.specs.declared.Measure.TheVariants.{Incr}
use Rattle.rows.specs.Lists.{differ}
use Rattle.rows.proofs.Tests.{and_left, and_right, differ-cases}
use Rattle.rows.proofs.Counting.{max_bound, max-reach}
use Rattle.network.specs.declared.Link.{Link}
use Rattle.network.specs.Network.{Net, in_service}
use Rattle.tree.specs.Tree.{Tree, tree_of, dist, under, inside}
use Rattle.tree.proofs.Ways.{Home, under_self}
use Rattle.tree.proofs.Meeting.{apart-over, apart_far}
use Rattle.sound.specs.Sound.{keeps_short, short}
use Rattle.sound.proofs.Sounds.{Sound}
use Rattle.sound.proofs.Holding.{home, first_in, second_in, link-short}
use Rattle.survey.proofs.Inside.{inside_in, inside-small}
use Rattle.swap.specs.Swap.{inner_end, outer_end, crosses, new_dist, cost}

module _ (t : Tree) (x : ℕ) (l : Link) where
  -- the lower end of a link that crosses x is in T(x), the other is not
  ends_split : differ (under t x l.first) (under t x l.second) ≡ true → (under t x (inner_end t x l) ≡ true) × (under t x (outer_end t x l) ≡ false)
  unfolding inner_end outer_end
  ends_split h =
      differ-cases (under t x l.first) (under t x l.second) h
      (λ p q. (rw p p, rw p q))
      (λ p q. (rw p q, rw p p))

  pub crossing_splits : (e : ℕ) → crosses t x e l ≡ true → (under t x (inner_end t x l) ≡ true) × (under t x (outer_end t x l) ≡ false)
  unfolding crosses
  crossing_splits e h = ends_split (and_right (in_service l && not (eqb e (t.link x))) _ h)

  pub crossing-serves : (e : ℕ) → crosses t x e l ≡ true → in_service l ≡ true
  unfolding crosses
  crossing-serves e h = and_left (in_service l) (not (eqb e (t.link x))) (and_left (in_service l && not (eqb e (t.link x))) _ h)

  -- what holds of both ends holds of the lower and of the upper
  pub of_inner : (P : ℕ → Type 0) → P l.first → P l.second → P (inner_end t x l)
  unfolding inner_end
  of_inner P p q = go (under t x l.first) refl
    where
      go : (b : Bool) → under t x l.first ≡ b → P (inner_end t x l)
      go true e = rw e p
      go false e = rw e q

  pub of_outer : (P : ℕ → Type 0) → P l.first → P l.second → P (outer_end t x l)
  unfolding outer_end
  of_outer P p q = go (under t x l.first) refl
    where
      go : (b : Bool) → under t x l.first ≡ b → P (outer_end t x l)
      go true e = rw e q
      go false e = rw e p

  -- the two inequalities, read from the lower end
  short_ends : short t l.first l.second l.length ≡ true → dist t (inner_end t x l) ≤ dist t (outer_end t x l) + l.length
  unfolding short keeps_short inner_end outer_end
  short_ends h = go (under t x l.first) refl
    where
      go : (b : Bool) → under t x l.first ≡ b → dist t (inner_end t x l) ≤ dist t (outer_end t x l) + l.length
      go true e = rw e (leb-true _ _ (and_left _ _ h))
      go false e =
          rw e (leb-true _ _ (and_right (leb (dist t l.first) (dist t l.second + l.length)) _ h))

  -- no node comes nearer
  no_nearer : (u : ℕ) → Home t u → Home t (inner_end t x l) → short t l.first l.second l.length ≡ true → dist t u ≤ new_dist t x l u
  unfolding new_dist
  no_nearer u h g k = omega (arith, apart_far t u (inner_end t x l) h g, short_ends k)

  module _ (everywhere : (u : ℕ) → u < t.size → Home t u) (lx : x < t.size) (hz : Home t (inner_end t x l)) (low : under t x (inner_end t x l) ≡ true) where
    gain : (u : ℕ) → Home t u → under t x u ≡ true → new_dist t x l u + dist t x ≤ new_dist t x l x + dist t u
    unfolding new_dist
    gain u h p = omega (arith, apart-over t u (inner_end t x l) x h hz p low)

    -- incr by its definition is N(x) - d(x)
    incr_own : cost Incr t x l ≡ new_dist t x l x - dist t x
    unfolding cost
    incr_own =
        le_antisymm
        (max_bound _ t.size _ (λ u k. inside-small t x (λ u. new_dist t x l u - dist t u) u _ (λ p. omega (arith, gain u (everywhere u k) p))))
        (rw (← inside_in t x (λ u. new_dist t x l u - dist t u) x (under_self t x (everywhere x lx)))
        (max-reach (inside t x (λ u. new_dist t x l u - dist t u)) t.size x lx))

-- in a sound network
module _ (g : Net) (s : Sound g) (x e : ℕ) (le : e < g.links) (c : crosses (tree_of g) x e (g.link e) ≡ true) where
  lower-home : Home (tree_of g) (inner_end (tree_of g) x (g.link e))
  lower-home = of_inner (tree_of g) x (g.link e) (Home (tree_of g)) (home g s _ (first_in g s e le)) (home g s _ (second_in g s e le))

  -- N(u) - d(u) is never cut off at 0
  pub never_nearer : (u : ℕ) → u < g.nodes → dist (tree_of g) u ≤ new_dist (tree_of g) x (g.link e) u
  never_nearer u l =
      no_nearer (tree_of g) x (g.link e) u (home g s u l) lower-home
      (link-short g s e le (crossing-serves (tree_of g) x (g.link e) e c))

  -- incr is the failed node's own increase
  pub incr_is : x < g.nodes → cost Incr (tree_of g) x (g.link e) ≡ new_dist (tree_of g) x (g.link e) x - dist (tree_of g) x
  unfolding tree_of
  incr_is l =
      incr_own (tree_of g) x (g.link e) (home g s) l lower-home (crossing_splits (tree_of g) x (g.link e) e c).0
