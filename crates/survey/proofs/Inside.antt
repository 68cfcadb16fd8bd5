-- What is said of T(x) node by node: the largest of it, and of what is beside x, is reached and is a bound. Assumes nothing.
use mathlib.Core.Path.{◌≡◌}
use mathlib.Core.Bool.{true, false, not}
use Prim.Native.Nat.{ℕ, ◌<◌, ◌≤◌}
use lib.Dec.{eqb}
use borrow.Author.Tests.{not-true}
use Rattle.rows.specs.Count.{max_to, only_if}
use Rattle.rows.proofs.Tests.{and_left, and_right}
use Rattle.rows.proofs.Counting.{max_bound, max-reach, only_small}
use Rattle.tree.specs.Tree.{Tree, dist, under, inside}
use Rattle.tree.proofs.Ways.{Home, home-up, home-step, under_self}
use Rattle.tree.proofs.Climbing.{below-not}
use Rattle.survey.specs.Known.{beside, aside}

-- f(u) for u in T(x)
pub inside_in : (t : Tree) (x : ℕ) (f : ℕ → ℕ) (u : ℕ) → under t x u ≡ true → inside t x f u ≡ f u
unfolding inside only_if
inside_in t x f u h = rw h

pub inside-small : (t : Tree) (x : ℕ) (f : ℕ → ℕ) (u b : ℕ) → (under t x u ≡ true → f u ≤ b) → inside t x f u ≤ b
unfolding inside
inside-small t x f u b h = only_small (under t x u) (f u) b h

pub inside-out : (t : Tree) (x : ℕ) (f : ℕ → ℕ) (u : ℕ) → under t x u ≡ false → inside t x f u ≡ 0
unfolding inside only_if
inside-out t x f u h = rw h

-- the largest over T(x): none is larger, and it is no larger than a bound of all
module _ (t : Tree) (x : ℕ) (f : ℕ → ℕ) where
  pub inside-reach : (u : ℕ) → u < t.size → under t x u ≡ true → f u ≤ max_to (inside t x f) t.size
  inside-reach u l e = rw (← inside_in t x f u e) (max-reach (inside t x f) t.size u l)

  pub inside_bound : (b : ℕ) → ((u : ℕ) → u < t.size → under t x u ≡ true → f u ≤ b) → max_to (inside t x f) t.size ≤ b
  inside_bound b h = max_bound (inside t x f) t.size b (λ u l. inside-small t x f u b (h u l))

-- the largest distance beside x
module _ (t : Tree) (all : (u : ℕ) → u < t.size → Home t u) where
  module _ (x z : ℕ) (lz : z < t.size) (pz : under t x z ≡ true) (nx : eqb x t.root ≡ false) (lp : t.up x < t.size) where
    hx : Home t x
    hx = home-up t z x (all z lz) pz

    beside-is : (u : ℕ) → under t (t.up x) u ≡ true → under t x u ≡ false → only_if (beside t x u) (dist t u) ≡ dist t u
    unfolding beside only_if
    beside-is u e f = rw (e, f)

    pub beside-reach : (u : ℕ) → u < t.size → under t (t.up x) u ≡ true → under t x u ≡ false → dist t u ≤ aside t x
    unfolding aside
    beside-reach u l e f = rw (← beside-is u e f) (max-reach (λ u. only_if (beside t x u) (dist t u)) t.size u l)

    pub aside-more : dist t (t.up x) ≤ aside t x
    aside-more = beside-reach (t.up x) lp (under_self t (t.up x) (home-step t x hx nx)) (below-not t x hx nx)

    pub beside_bound : (b : ℕ) → ((u : ℕ) → u < t.size → under t (t.up x) u ≡ true → under t x u ≡ false → dist t u ≤ b) → aside t x ≤ b
    unfolding aside beside
    beside_bound b h =
        max_bound (λ u. only_if (beside t x u) (dist t u)) t.size b
        (λ u l. only_small (beside t x u) (dist t u) b
        (λ q. h u l (and_left (under t (t.up x) u) (not (under t x u)) q)
        (not-true (under t x u) (and_right (under t (t.up x) u) (not (under t x u)) q))))
