-- What a reader expects of the tree distance t(u,z), said of every network and of nodes that have a route: it is 0 for a node and
-- itself, d(u) to the root, and never longer than through a third node. That it is the same in either order is `apart_sym`. Assumes
-- nothing.
use Rattle.std.proofs.Common.{◌≡◌, ℕ, ◌+◌, ◌≤◌, Bool, true, false, ◌||◌, sym, refl, ap, ◌∙◌, arith, eq-eqb}
use Rattle.rows.specs.Lists.{has, up_to}
use Rattle.network.specs.Network.{Net}
use Rattle.tree.specs.Tree.{Tree, tree_of, route, has_route, dist, under, meet, apart}
use Rattle.tree.proofs.Ways.{Home, home-up, dist-root, dist-up, under_self, under-root, under_trans, under-cut, before-under}
use Rattle.tree.proofs.Meeting.{meet_one, meet-two, meet-under, home-meet, meet_sym, apart_sym, apart-dist, apart_below}
use Rattle.tree.proofs.Made.{rise-flat}

module _ (t : Tree) where
  -- of two nodes on one route, one is above the other
  on_one :
      {A : Type 0} (y a b : ℕ)
      → Home t y → under t a y ≡ true → under t b y ≡ true → (under t a b ≡ true → A) → (under t b a ≡ true → A) → A
  on_one {A} y a b h p q f k = go (has b (up_to a (route t y))) refl
    where
      go : (s : Bool) → has b (up_to a (route t y)) ≡ s → A
      go true e = f (before-under t y a b h p e)
      go false e = k (sym (ap (λ (s : Bool). s || under t b a) e) ∙ sym (under-cut t y a b h p) ∙ q)

  -- through y, whose routes with u and z meet theirs at a and b, where a is above b
  through :
      (u y z : ℕ)
      → Home t u → Home t y → Home t z → under t (meet t u y) (meet t y z) ≡ true
      → apart t u z ≤ apart t u y + apart t y z
  through u y z hu hy hz p =
      let a = meet t u y in
      let b = meet t y z in
      let over-z = under_trans t b a z hz (meet-two t y z hy hz) p in
      omega (
        arith,
        apart-dist t u z hu hz,
        apart-dist t u y hu hy,
        apart-dist t y z hy hz,
        dist-up t (meet t u z) a (home-meet t u z hu hz) (meet-under t u z a hu hz (meet_one t u y hu hy) over-z),
        dist-up t y b hy (meet_one t y z hy hz),
      )

module _ (g : Net) where
  pub distance_same : (u : ℕ) → has_route (tree_of g) u ≡ true → apart (tree_of g) u u ≡ 0
  distance_same u h = omega (arith, apart_below (tree_of g) u u h (under_self (tree_of g) u h))

  pub distance_root : (u : ℕ) → has_route (tree_of g) u ≡ true → apart (tree_of g) u (tree_of g).root ≡ dist (tree_of g) u
  distance_root u h =
      let t = tree_of g in
      let top = eq-eqb t.root t.root refl in
      let hr = home-up t u t.root h (under-root t u h) in
      omega (
        arith,
        apart_sym t u t.root h hr,
        apart_below t t.root u h (under-root t u h),
        dist-root t t.root hr top (rise-flat g t.root top),
      )

  pub distance_through :
      (u y z : ℕ)
      → has_route (tree_of g) u ≡ true → has_route (tree_of g) y ≡ true → has_route (tree_of g) z ≡ true
      → apart (tree_of g) u z ≤ apart (tree_of g) u y + apart (tree_of g) y z
  distance_through u y z hu hy hz =
      let t = tree_of g in
      on_one t y (meet t u y) (meet t y z) hy (meet-two t u y hu hy) (meet_one t y z hy hz)
      (through t u y z hu hy hz)
      (λ p. omega (
        arith,
        through t z y u hz hy hu (rw (meet_sym t z y hz hy, meet_sym t y u hy hu) p),
        apart_sym t u z hu hz,
        apart_sym t z y hz hy,
        apart_sym t y u hy hu,
      ))
