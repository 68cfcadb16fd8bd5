-- The sum by what is kept at each node: sum + turn(z) = base(x) + count(x) * K, with K = d(z) + w + d(z'). Assumes nothing.
use mathlib.Core.Path.{◌≡◌, refl, sym, subst, ap, ◌∙◌}
use mathlib.Core.Bool.{Bool, true, false}
use Prim.Native.Nat.{ℕ, ◌+◌, ◌*◌, ◌-◌, ◌<◌, ◌≤◌}
use native.Mathlib.Nat.{one-mul, zero-mul, add-mul}
use native.Mathlib.Omega.{arith}
use lib.Dec.{eqb}
use Rattle.edition.specs.declared.Measure.TheVariants.{Sum}
use Rattle.rows.specs.Count.{sum_to}
use Rattle.rows.specs.Lists.{has, up_to, total}
use borrow.Author.Tests.{eqb-true}
use Rattle.rows.proofs.Tests.{clash, either, not_so}
use Rattle.rows.proofs.Counting.{sum_cong, sum-add, sum_le, sum_times, sum_balance}
use Rattle.network.specs.declared.Link.{Link}
use Rattle.tree.specs.Tree.{Tree, route, dist, under, meet, inside}
use Rattle.tree.proofs.Ways.{Home, home-up, home-step, under_self, under_trans, under-cut, before-under, route-step, under-step}
use Rattle.tree.proofs.Meeting.{meet-under, meet_one, meet-two, apart-dist, under_both, home-meet}
use Rattle.tree.proofs.Climbing.{up_above, along-all}
use Rattle.survey.proofs.Inside.{inside_in, inside-out}
use Rattle.swap.specs.Swap.{inner_end, outer_end, new_dist, cost}
use Rattle.survey.specs.Known.{count, weight, stem_at, stem, base, turn}
use Rattle.swap.specs.Work.{through}

module _ (t : Tree) where
  -- one number at every node of T(x)
  count_times : (x c : ℕ) → sum_to (inside t x (λ u. c)) t.size ≡ count t x * c
  unfolding count
  count_times x c =
      sum_cong (inside t x (λ u. c)) (λ u. inside t x (λ u. 1) u * c) t.size (λ u l. each u (under t x u) refl)
      ∙ sum_times (inside t x (λ u. 1)) c t.size
    where
      each : (u : ℕ) (b : Bool) → under t x u ≡ b → inside t x (λ u. c) u ≡ inside t x (λ u. 1) u * c
      each u true e = rw (inside_in t x (λ u. c) u e, inside_in t x (λ u. 1) u e) (sym (one-mul c))
      each u false e = rw (inside-out t x (λ u. c) u e, inside-out t x (λ u. 1) u e) (sym (zero-mul c))

  -- the distances of where the routes of T(x) meet that of z
  met : ℕ → ℕ → ℕ
  met x z = sum_to (inside t x (λ u. dist t (meet t u z))) t.size

  module _ (all : (u : ℕ) → u < t.size → Home t u) where
    -- from z itself every node below it comes by z
    pub meet_below : (u z : ℕ) → Home t u → under t z u ≡ true → meet t u z ≡ z
    meet_below u z h p =
        let hz = home-up t u z h p in
        under_both t (meet t u z) z (home-meet t u z h hz) hz (meet-two t u z h hz) (meet-under t u z z h hz p (under_self t z hz))

    met_start : (z : ℕ) → met z z ≡ count t z * dist t z
    unfolding met
    met_start z =
        sum_cong (inside t z (λ u. dist t (meet t u z))) (inside t z (λ u. dist t z)) t.size
        (λ u l. each u (all u l) (under t z u) refl)
        ∙ count_times z (dist t z)
      where
        each : (u : ℕ) → Home t u → (b : Bool) → under t z u ≡ b → inside t z (λ u. dist t (meet t u z)) u ≡ inside t z (λ u. dist t z) u
        each u h true e = rw (inside_in t z (λ u. dist t (meet t u z)) u e, inside_in t z (λ u. dist t z) u e) (ap (dist t) (meet_below u z h e))
        each u h false e = rw (inside-out t z (λ u. dist t (meet t u z)) u e, inside-out t z (λ u. dist t z) u e)

    module _ (x z : ℕ) (hz : Home t z) (pz : under t x z ≡ true) (nx : eqb x t.root ≡ false) where
      hx : Home t x
      hx = home-up t z x hz pz

      px : under t (t.up x) x ≡ true
      px = up_above t x hx x (under_self t x hx) nx

      pzp : under t (t.up x) z ≡ true
      pzp = under_trans t x (t.up x) z hz pz px

      hp : Home t (t.up x)
      hp = home-step t x hx nx

      -- a node on the route of z that is not in T(x) is on the route of the parent of x
      above : (c : ℕ) → under t c z ≡ true → under t x c ≡ false → under t c (t.up x) ≡ true
      above c e f =
          either (has c (up_to x (route t z))) (under t c x) (sym (under-cut t z x c hz pz) ∙ e)
          (λ q. clash (before-under t z x c hz pz q) f)
          (λ q r. step c r f)
        where
          step : (c : ℕ) → under t c x ≡ true → under t x c ≡ false → under t c (t.up x) ≡ true
          step c r f =
              either (eqb x c) (under t c (t.up x)) (sym (under-step t x c hx nx) ∙ r)
              (λ q. clash (subst (λ (v : ℕ). under t x v ≡ true) (eqb-true x c q) (under_self t x hx)) f)
              (λ q k. k)

      -- a node below the parent of x and not below x meets z at the parent
      pub meet-aside : (u : ℕ) → Home t u → under t (t.up x) u ≡ true → under t x u ≡ false → meet t u z ≡ t.up x
      meet-aside u h e f =
          let c = meet t u z in
          let hc = home-meet t u z h hz in
          let out : under t x c ≡ false = not_so (under t x c) (λ q. clash (under_trans t c x u h (meet_one t u z h hz) q) f) in
          under_both t c (t.up x) hc hp (above c (meet-two t u z h hz) out) (meet-under t u z (t.up x) h hz e pzp)

      -- R(p) + count(x) d(p) = R(x) + count(p) d(p)
      met_step : met (t.up x) z + count t x * dist t (t.up x) ≡ met x z + count t (t.up x) * dist t (t.up x)
      unfolding met
      met_step =
          rw (← count_times x (dist t (t.up x)), ← count_times (t.up x) (dist t (t.up x)))
          (sum_balance (inside t (t.up x) (λ u. dist t (meet t u z))) (inside t x (λ u. dist t (t.up x)))
          (inside t x (λ u. dist t (meet t u z))) (inside t (t.up x) (λ u. dist t (t.up x))) t.size
          (λ u l. each u (all u l) (under t x u) refl (under t (t.up x) u) refl))
        where
          f : ℕ → ℕ
          f = λ u. dist t (meet t u z)

          c : ℕ → ℕ
          c = λ u. dist t (t.up x)

          each :
              (u : ℕ)
              → Home t u → (a : Bool) → under t x u ≡ a → (b : Bool) → under t (t.up x) u ≡ b
              → inside t (t.up x) f u + inside t x c u ≡ inside t x f u + inside t (t.up x) c u
          each u h true e true g = rw (inside_in t (t.up x) f u g, inside_in t x c u e, inside_in t x f u e, inside_in t (t.up x) c u g)
          each u h true e false g = clash (under_trans t x (t.up x) u h e px) g
          each u h false e true g =
              rw (inside_in t (t.up x) f u g, inside-out t x c u e, inside-out t x f u e, inside_in t (t.up x) c u g)
              (omega (arith, ap (dist t) (meet-aside u h g e)))
          each u h false e false g = rw (inside-out t (t.up x) f u g, inside-out t x c u e, inside-out t x f u e, inside-out t (t.up x) c u g)

      -- T(x) has no more nodes than T(p)
      pub count-up : count t x ≤ count t (t.up x)
      unfolding count
      count-up = sum_le (inside t x (λ u. 1)) (inside t (t.up x) (λ u. 1)) t.size (λ u l. each u (all u l) (under t x u) refl)
        where
          each : (u : ℕ) → Home t u → (b : Bool) → under t x u ≡ b → inside t x (λ u. 1) u ≤ inside t (t.up x) (λ u. 1) u
          each u h true e = rw (inside_in t x (λ u. 1) u e, inside_in t (t.up x) (λ u. 1) u (under_trans t x (t.up x) u h e px)) (omega arith)
          each u h false e = rw (inside-out t x (λ u. 1) u e) (omega arith)

      pub stem-step : stem t x ≡ (count t (t.up x) - count t x) * dist t (t.up x) + stem t (t.up x)
      unfolding stem stem_at total
      stem-step = ap (total (stem_at t)) (route-step t x hx nx)

      met_stem : met x z + stem t x ≡ met (t.up x) z + stem t (t.up x)
      met_stem =
          let more : count t x + (count t (t.up x) - count t x) ≡ count t (t.up x) = omega (arith, count-up) in
          omega (arith, met_step, stem-step, add-mul (count t x) (count t (t.up x) - count t x) (dist t (t.up x)), ap (λ (k : ℕ). k * dist t (t.up x)) more)

    -- all along the route of z
    met_all : (z : ℕ) → Home t z → (x : ℕ) → under t x z ≡ true → met x z + stem t x ≡ count t z * dist t z + stem t z
    met_all z hz =
        along-all t (λ x. met x z + stem t x ≡ count t z * dist t z + stem t z) z hz
        (λ x o e h. sym (met_stem x z hz o e) ∙ h)
        (ap (λ (k : ℕ). k + stem t z) (met_start z))

    -- N(u) + 2 d(meet) = d(u) + K, added over T(x)
    module _ (x : ℕ) (l : Link) (hz : Home t (inner_end t x l)) (pz : under t x (inner_end t x l) ≡ true) where
      -- K read from the lower end
      pub through_ends : through t l ≡ dist t (inner_end t x l) + l.length + dist t (outer_end t x l)
      unfolding through inner_end outer_end
      through_ends = go (under t x l.first) refl
        where
          go : (b : Bool) → under t x l.first ≡ b → through t l ≡ dist t (inner_end t x l) + l.length + dist t (outer_end t x l)
          go true e = rw e
          go false e = rw e (omega arith)

      twice_met : ℕ → ℕ
      twice_met u = dist t (meet t u (inner_end t x l)) + dist t (meet t u (inner_end t x l))

      one_met : (u : ℕ) → Home t u → new_dist t x l u + twice_met u ≡ dist t u + through t l
      unfolding new_dist twice_met
      one_met u h = omega (arith, apart-dist t u (inner_end t x l) h hz, through_ends)

      met_twice : sum_to (inside t x twice_met) t.size ≡ met x (inner_end t x l) + met x (inner_end t x l)
      unfolding met twice_met
      met_twice =
          sum_cong (inside t x twice_met)
          (λ u. inside t x (λ u. dist t (meet t u (inner_end t x l))) u + inside t x
          (λ u. dist t (meet t u (inner_end t x l))) u)
          t.size (λ u k. each u (under t x u) refl)
          ∙ sum-add (inside t x (λ u. dist t (meet t u (inner_end t x l))))
          (inside t x (λ u. dist t (meet t u (inner_end t x l)))) t.size
        where
          f : ℕ → ℕ
          f = λ u. dist t (meet t u (inner_end t x l))

          each : (u : ℕ) (b : Bool) → under t x u ≡ b → inside t x twice_met u ≡ inside t x f u + inside t x f u
          each u true e = rw (inside_in t x twice_met u e, inside_in t x f u e)
          each u false e = rw (inside-out t x twice_met u e, inside-out t x f u e)

      sum_met : cost Sum t x l + sum_to (inside t x twice_met) t.size ≡ weight t x + count t x * through t l
      unfolding cost weight
      sum_met =
          rw (← count_times x (through t l))
          (sum_balance (inside t x (new_dist t x l)) (inside t x twice_met) (inside t x (dist t)) (inside t x (λ u. through t l)) t.size
          (λ u k. each u (all u k) (under t x u) refl))
        where
          each :
              (u : ℕ)
              → Home t u → (b : Bool) → under t x u ≡ b
              → inside t x (new_dist t x l) u + inside t x twice_met u
              ≡ inside t x (dist t) u + inside t x (λ u. through t l) u
          each u h true e =
              rw (inside_in t x (new_dist t x l) u e, inside_in t x twice_met u e, inside_in t x (dist t) u e, inside_in t x (λ u. through t l) u e)
              (one_met u h)
          each u h false e =
              rw (inside-out t x (new_dist t x l) u e, inside-out t x twice_met u e, inside-out t x (dist t) u e, inside-out t x (λ u. through t l) u e)

      -- the sum by what is kept
      pub sum_is : cost Sum t x l + turn t (inner_end t x l) ≡ base t x + count t x * through t l
      unfolding turn base
      sum_is = omega (arith, sum_met, met_twice, met_all (inner_end t x l) hz x pz)
