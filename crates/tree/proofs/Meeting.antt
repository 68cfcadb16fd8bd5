-- Where two routes meet, the tree path, and which tree links lie on it. Assumes nothing.
use Rattle.std.proofs.Common.{◌≡◌, ℕ, ◌+◌, ◌<◌, ◌≤◌, Bool, true, false, ◌||◌, eqb, List, [], ◌∷◌, length, sym, refl, ap, ◌∙◌, arith, eqb-true}
use borrow.Author.Tests.{eqb-false}
use Rattle.rows.specs.Lists.{has, up_to, differ}
use Rattle.rows.proofs.Tests.{clash}
use Rattle.rows.proofs.Listed.{Meets, first_of_meets, has_head, up_to-past}
use Rattle.tree.specs.Tree.{Tree, route, dist, under, meet, apart, on_path}
use Rattle.tree.proofs.Ways.{Way, top, hop, Home, way, way-root, home-up, dist-cut, dist-up, under_self, under-cut, before-longer}
use Rattle.tree.proofs.Ways.{after_shorter, before-not-after}

apart_bools : (a b c : Bool) → (a ≡ true → (b || c) ≡ false) → (b ≡ true → c ≡ false) → (a || b) ≡ differ (a || c) (b || c)
apart_bools true b c f g = rw (f refl)
apart_bools false true c f g = rw (g refl)
apart_bools false false true f g = refl
apart_bools false false false f g = refl

module _ (t : Tree) where
  pub meet-is : (a b : ℕ) → Home t a → Home t b → Meets (route t a) (route t b) (meet t a b)
  unfolding meet
  meet-is a b h g = first_of_meets t.root (route t a) (route t b) (way-root t (way t a h)) (way-root t (way t b g))

  -- the routes meet at a node that both are under; none before it on one route is on the other
  pub meet_one : (a b : ℕ) → Home t a → Home t b → under t (meet t a b) a ≡ true
  unfolding under
  meet_one a b h g = (meet-is a b h g).one

  pub meet-two : (a b : ℕ) → Home t a → Home t b → under t (meet t a b) b ≡ true
  unfolding under
  meet-two a b h g = (meet-is a b h g).two

  pub meet-none : (a b x : ℕ) → Home t a → Home t b → has x (up_to (meet t a b) (route t a)) ≡ true → under t x b ≡ false
  unfolding under
  meet-none a b x h g p = (meet-is a b h g).none x p

  pub home-meet : (a b : ℕ) → Home t a → Home t b → Home t (meet t a b)
  home-meet a b h g = home-up t a (meet t a b) h (meet_one a b h g)

  -- a node that both are under is above the meeting place
  pub meet-under : (u z x : ℕ) → Home t u → Home t z → under t x u ≡ true → under t x z ≡ true → under t x (meet t u z) ≡ true
  meet-under u z x h g p q = go (has x (up_to (meet t u z) (route t u))) refl
    where
      go : (b : Bool) → has x (up_to (meet t u z) (route t u)) ≡ b → under t x (meet t u z) ≡ true
      go true e = clash q (meet-none u z x h g e)
      go false e =
          sym (ap (λ (b : Bool). b || under t x (meet t u z)) e) ∙
          sym (under-cut t u (meet t u z) x h (meet_one u z h g)) ∙ p

  -- a list that begins with u has u before e, unless e is u
  head_before : (u e : ℕ) (r : List ℕ) → has u (up_to e (u ∷ r)) ≡ false → u ≡ e
  head_before u e r f = go (eqb u e) refl
    where
      go : (b : Bool) → eqb u e ≡ b → u ≡ e
      go true q = eqb-true u e q
      go false q = clash (has_head u (up_to e r)) (rw (up_to-past u e r q) at f)

  way-before : {u : ℕ} {r : List ℕ} (e : ℕ) → Way t u r → has u (up_to e r) ≡ false → u ≡ e
  way-before e (top {u} q) f = head_before u e [] f
  way-before e (hop {u} {r} q w) f = head_before u e r f

  -- of two nodes, the one below has the longer route
  pub longer-below : (x y : ℕ) → Home t y → under t x y ≡ true → (x ≡ y → ⊥) → length (route t x) < length (route t y)
  longer-below x y h p n = go (has y (up_to x (route t y))) refl
    where
      go : (b : Bool) → has y (up_to x (route t y)) ≡ b → length (route t x) < length (route t y)
      go true e = before-longer t y x y h p e (home-up t y x h p) h
      go false e = absurd (n (sym (way-before x (way t y h) e)))

  -- two nodes that are under each other are one
  pub under_both : (c e : ℕ) → Home t c → Home t e → under t c e ≡ true → under t e c ≡ true → c ≡ e
  under_both c e hc he p q = go (eqb c e) refl
    where
      go : (b : Bool) → eqb c e ≡ b → c ≡ e
      go true f = eqb-true c e f
      go false f = absurd (omega (arith, longer-below c e he p (eqb-false c e f), after_shorter t c e hc he q))

  -- the routes of u and z meet where those of z and u do
  pub meet_sym : (u z : ℕ) → Home t u → Home t z → meet t u z ≡ meet t z u
  meet_sym u z h g =
      under_both (meet t u z) (meet t z u) (home-meet u z h g) (home-meet z u g h)
      (meet-under z u (meet t u z) g h (meet-two u z h g) (meet_one u z h g))
      (meet-under u z (meet t z u) h g (meet-two z u g h) (meet_one z u g h))

  -- t(u,z) = t(z,u)
  pub apart_sym : (u z : ℕ) → Home t u → Home t z → apart t u z ≡ apart t z u
  unfolding apart
  apart_sym u z h g = rw (meet_sym u z h g) (omega arith)

  -- t(u,z) + 2 d(meet) = d(u) + d(z)
  pub apart-dist : (u z : ℕ) → Home t u → Home t z → apart t u z + dist t (meet t u z) + dist t (meet t u z) ≡ dist t u + dist t z
  unfolding apart
  apart-dist u z h g =
      omega
      (arith, dist-cut t u (meet t u z) h (meet_one u z h g), dist-cut t z (meet t u z) g (meet-two u z h g))

  -- t(x,z) for z in T(x)
  pub apart_below : (x z : ℕ) → Home t z → under t x z ≡ true → apart t x z + dist t x ≡ dist t z
  apart_below x z g q =
      let hx = home-up t z x g q in
      let m = meet-under x z x hx g (under_self t x hx) q in
      let one = dist-cut t (meet t x z) x (home-meet x z hx g) m in
      let two = dist-cut t x (meet t x z) hx (meet_one x z hx g) in
      omega (arith, apart-dist x z hx g)

  -- t(u,z) is no more than the way up from u to x and down to z
  pub apart-over : (u z x : ℕ) → Home t u → Home t z → under t x u ≡ true → under t x z ≡ true → apart t u z + dist t x ≤ apart t x z + dist t u
  apart-over u z x h g p q =
      omega
      (arith, apart-dist u z h g, apart_below x z g q, dist-up t (meet t u z) x (home-meet u z h g) (meet-under u z x h g p q))

  -- d(u) <= t(u,z) + d(z)
  pub apart_far : (u z : ℕ) → Home t u → Home t z → dist t u ≤ apart t u z + dist t z
  apart_far u z h g = omega (arith, apart-dist u z h g, dist-up t z (meet t u z) g (meet-two u z h g))

  -- a tree link lies on the tree path between a and b exactly where one of them alone is below it
  pub on_path_lem : (a b x : ℕ) → Home t a → Home t b → on_path t a b x ≡ differ (under t x a) (under t x b)
  unfolding on_path
  on_path_lem a b x h g =
      let c = meet t a b in
      rw (under-cut t a c x h (meet_one a b h g), under-cut t b c x g (meet-two a b h g))
      (apart_bools (has x (up_to c (route t a))) (has x (up_to c (route t b))) (under t x c)
      (λ p. sym (under-cut t b c x g (meet-two a b h g)) ∙ meet-none a b x h g p)
      (λ p. before-not-after t b c x g (meet-two a b h g) p))
