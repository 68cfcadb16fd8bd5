-- The max by what is carried: reach(z,z) = deepest(z) - d(z); one step up it is the larger of itself and d(z) - d(p) + aside(x) - d(p);
-- and max is reach + w + d(z'). Incr is K - 2 d(x). Assumes nothing.
use mathlib.Core.Path.{◌≡◌, refl, ap}
use mathlib.Core.Bool.{Bool, true, false}
use Prim.Native.Nat.{ℕ, ◌+◌, ◌-◌, ◌<◌, ◌≤◌, max}
use native.Mathlib.Nat.{le_antisymm}
use native.Mathlib.Omega.{arith}
use lib.Dec.{eqb}
use Rattle.edition.specs.declared.Measure.TheVariants.{Max}
use Rattle.rows.specs.Count.{max_to}
use Rattle.network.specs.declared.Link.{Link}
use Rattle.tree.specs.Tree.{Tree, dist, under, apart, inside}
use Rattle.tree.proofs.Ways.{Home, home-up, home-step, under_self, under_trans, dist-up}
use Rattle.tree.proofs.Meeting.{apart-dist}
use Rattle.tree.proofs.Climbing.{up_above, below-not}
use Rattle.swap.specs.Swap.{inner_end, outer_end, new_dist, cost}
use Rattle.survey.proofs.Inside.{inside-reach, inside_bound, beside-reach, beside_bound, aside-more}
use Rattle.survey.specs.Known.{deepest, aside}
use Rattle.swap.specs.Work.{reach}
use Rattle.swap.proofs.Folding.{meet_below, meet-aside}

module _ (t : Tree) (all : (u : ℕ) → u < t.size → Home t u) where
  -- from z itself
  pub reach-start : (z : ℕ) → z < t.size → reach t z z + dist t z ≡ deepest t z
  unfolding reach deepest
  reach-start z l =
      le_antisymm
      (omega (
        arith,
        inside_bound t z (λ u. apart t u z) (max_to (inside t z (dist t)) t.size - dist t z)
            (λ u k e. omega (arith, one u (all u k) e, inside-reach t z (dist t) u k e)),
        inside-reach t z (dist t) z l (under_self t z (all z l)),
      ))
      (inside_bound t z (dist t) (max_to (inside t z (λ u. apart t u z)) t.size + dist t z)
      (λ u k e. omega (arith, one u (all u k) e, inside-reach t z (λ u. apart t u z) u k e)))
    where
      one : (u : ℕ) → Home t u → under t z u ≡ true → apart t u z + dist t z ≡ dist t u
      one u h e =
          let hz = home-up t u z h e in
          omega (arith, apart-dist t u z h hz, ap (dist t) (meet_below t all u z h e))

  module _ (x z : ℕ) (lz : z < t.size) (pz : under t x z ≡ true) (nx : eqb x t.root ≡ false) (lp : t.up x < t.size) where
    hz : Home t z
    hz = all z lz

    hx : Home t x
    hx = home-up t z x hz pz

    hp : Home t (t.up x)
    hp = home-step t x hx nx

    px : under t (t.up x) x ≡ true
    px = up_above t x hx x (under_self t x hx) nx

    -- the parent itself is beside x
    x_not : under t x (t.up x) ≡ false
    x_not = below-not t x hx nx

    -- t(u,z) of a node beside x
    apart-beside :
        (u : ℕ)
        → Home t u → under t (t.up x) u ≡ true → under t x u ≡ false
        → apart t u z + dist t (t.up x) + dist t (t.up x) ≡ dist t u + dist t z
    apart-beside u h e f = omega (arith, apart-dist t u z h hz, ap (dist t) (meet-aside t all x z hz pz nx u h e f))

    p_under : under t (t.up x) z ≡ true
    p_under = under_trans t x (t.up x) z hz pz px

    near : dist t (t.up x) ≤ dist t z
    near = dist-up t z (t.up x) hz p_under

    -- one step up
    pub reach_step : reach t (t.up x) z ≡ max (reach t x z) ((dist t z - dist t (t.up x)) + (aside t x - dist t (t.up x)))
    unfolding reach
    reach_step = le_antisymm upper_half lower_half
      where
        f : ℕ → ℕ
        f = λ u. apart t u z

        each :
            (u : ℕ)
            → u < t.size → under t (t.up x) u ≡ true → (b : Bool) → under t x u ≡ b
            → apart t u z ≤ max (max_to (inside t x f) t.size)
            ((dist t z - dist t (t.up x)) + (aside t x - dist t (t.up x)))
        each u l e true g = omega (arith, inside-reach t x f u l g)
        each u l e false g = omega (arith, apart-beside u (all u l) e g, beside-reach t all x z lz pz nx lp u l e g, near)

        upper_half :
            max_to (inside t (t.up x) f) t.size ≤ max (max_to (inside t x f) t.size)
            ((dist t z - dist t (t.up x)) + (aside t x - dist t (t.up x)))
        upper_half = inside_bound t (t.up x) f _ (λ u l e. each u l e (under t x u) refl)

        one : max_to (inside t x f) t.size ≤ max_to (inside t (t.up x) f) t.size
        one = inside_bound t x f _ (λ u l e. inside-reach t (t.up x) f u l (under_trans t x (t.up x) u (all u l) e px))

        -- what is beside x reaches as far
        two : aside t x + dist t z ≤ max_to (inside t (t.up x) f) t.size + dist t (t.up x) + dist t (t.up x)
        two =
            omega (
              arith,
              beside_bound t all x z lz pz nx lp (max_to (inside t (t.up x) f) t.size + dist t (t.up x) + dist t (t.up x) - dist t z)
                  (λ u l e g. omega (arith, apart-beside u (all u l) e g, inside-reach t (t.up x) f u l e)),
              aside-more t all x z lz pz nx lp,
              apart-beside (t.up x) hp (under_self t (t.up x) hp) x_not,
              inside-reach t (t.up x) f (t.up x) lp (under_self t (t.up x) hp),
            )

        lower_half :
            max (max_to (inside t x f) t.size) ((dist t z - dist t (t.up x)) + (aside t x - dist t (t.up x))) ≤
            max_to (inside t (t.up x) f) t.size
        lower_half = omega (arith, one, two, near, aside-more t all x z lz pz nx lp)

  -- max and incr of a link that crosses x
  module _ (x : ℕ) (l : Link) (lx : x < t.size) (hz : Home t (inner_end t x l)) (pz : under t x (inner_end t x l) ≡ true) where
    pub max-is : cost Max t x l ≡ reach t x (inner_end t x l) + (l.length + dist t (outer_end t x l))
    unfolding cost reach new_dist
    max-is =
        le_antisymm
        (inside_bound t x (new_dist t x l) _ (λ u k e. omega (arith, one u, inside-reach t x f u k e)))
        (omega (
          arith,
          inside_bound t x f (max_to (inside t x (new_dist t x l)) t.size - (l.length + dist t (outer_end t x l)))
              (λ u k e. omega (arith, one u, inside-reach t x (new_dist t x l) u k e)),
          one x,
          inside-reach t x (new_dist t x l) x lx (under_self t x (all x lx)),
        ))
      where
        f : ℕ → ℕ
        f = λ u. apart t u (inner_end t x l)

        one : (u : ℕ) → new_dist t x l u ≡ apart t u (inner_end t x l) + (l.length + dist t (outer_end t x l))
        one u = omega arith
