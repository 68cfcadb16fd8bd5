-- How long routes can be, where each node's parent is a node: a node that has a way at all has one of at most n nodes, so the
-- cut in `route` and the bound of refusal 8 lose nothing; and a tree path, and a way around a failed link, have no more nodes than
-- there are. Assumes nothing.
use Rattle.std.proofs.Common.{◌≡◌, ℕ, ◌+◌, ◌*◌, ◌<◌, ◌≤◌, true, false, ◌||◌, eqb, List, [], ◌∷◌, ◌++◌, length, sym, refl, ◌∙◌, subst, ap₂, mul-le-mul_right}
use Rattle.std.proofs.Common.{suc-mul, add-mul, one-mul, arith, length-append, ne_eqb, eqb-true}
use Rattle.rows.specs.Lists.{has, up_to, total}
use Rattle.rows.proofs.Tests.{clash, either, not_so}
use Rattle.rows.proofs.Listed.{has-append, total_bound, up_to_less, up_to-out}
use Rattle.rows.proofs.Distinct.{Distinct, nil, cons, pigeons, distinct_append, distinct_up_to}
use Rattle.tree.specs.Tree.{Tree, route, dist, under, hops, way_up, meet, apart}
use Rattle.tree.proofs.Ways.{Way, top, hop, Home, way, way_home, way_distinct, home-up, hops-cut, under_self, under_trans, before_on, before-under}
use Rattle.tree.proofs.Meeting.{meet_one, meet-two, meet-none, meet-under, home-meet}

-- lengths of at most so much a node, added up
shared :
    (a b c n most : ℕ)
    → a + b + 1 + c ≤ n → (w : ℕ) → w ≤ most → (p q r : ℕ) → p ≤ a * most → q ≤ b * most → r + most ≤ c * most
    → p + q + w + r + most ≤ n * most
shared a b c n most h w k p q r i j l =
    omega
    (arith, mul-le-mul_right most h, add-mul (a + b + 1) c most, add-mul (a + b) 1 most, add-mul a b most, one-mul most)

module _ (t : Tree) (closed : (u : ℕ) → u < t.size → t.up u < t.size) where
  way-below : {u : ℕ} {r : List ℕ} → Way t u r → u < t.size → (y : ℕ) → has y r ≡ true → y < t.size
  unfolding has
  way-below (top {u} e) l y m = either (eqb u y) false m (λ q. rw (← eqb-true u y q) l) (λ q n. clash n refl)
  way-below (hop {u} {r} e w) l y m =
      either (eqb u y) (has y r) m (λ q. rw (← eqb-true u y q) l) (λ q n. way-below w (closed u l) y n)

  -- no route is cut: a node that has a way to the root has a route
  pub never_cut : {u : ℕ} {r : List ℕ} → Way t u r → u < t.size → Home t u
  never_cut {r} w l = way_home t w (pigeons t.size r (way_distinct t w) (way-below w l))

  -- what is above a node is a node
  pub under-below : (u x : ℕ) → Home t u → u < t.size → under t x u ≡ true → x < t.size
  unfolding under
  under-below u x h l p = way-below (way t u h) l x p

  -- z is at most n - 2 hops below an x that is not the root
  pub hops-few : (x z : ℕ) → Home t z → under t x z ≡ true → (x ≡ t.root → ⊥) → z < t.size → hops t x z + 2 ≤ t.size
  hops-few x z h p far l =
      omega (
        arith,
        hops-cut t z x h p,
        long (way t x (home-up t z x h p)),
        pigeons t.size (route t z) (way_distinct t (way t z h)) (way-below (way t z h) l),
      )
    where
      long : {r : List ℕ} → Way t x r → 2 ≤ length r
      long (top e) = absurd (far (eqb-true x t.root e))
      long (hop e (top f)) = omega arith
      long (hop e (hop f w)) = omega arith

  -- the nodes of the tree path from u to z, where the routes meet among them, and a list after that
  along : ℕ → ℕ → List ℕ → List ℕ
  along u z rest = up_to (meet t u z) (route t u) ++ (up_to (meet t u z) (route t z) ++ (meet t u z ∷ rest))

  -- a list of different nodes, none of them under where the routes of u and z meet
  module _ (u z : ℕ) (hu : Home t u) (hz : Home t z) (lu : u < t.size) (lz : z < t.size) (rest : List ℕ) (d : Distinct rest)
      (low : (y : ℕ) → has y rest ≡ true → y < t.size) (free : (y : ℕ) → Home t y → under t (meet t u z) y ≡ true → has y rest ≡ false) where
    tail_not : (v y : ℕ) → Home t v → under t (meet t u z) v ≡ true → has y (up_to (meet t u z) (route t v)) ≡ true → has y (meet t u z ∷ rest) ≡ false
    unfolding has
    tail_not v y h e p =
        ap₂ ◌||◌
        (ne_eqb (meet t u z) y (λ q. clash (subst (λ (k : ℕ). has k (up_to (meet t u z) (route t v)) ≡ true) (sym q) p) (up_to-out (meet t u z) (route t v))))
        (free y (home-up t v y h (before_on t v (meet t u z) y p)) (before-under t v (meet t u z) y h e p))

    along_distinct : Distinct (along u z rest)
    unfolding along under
    along_distinct =
        distinct_append (distinct_up_to (meet t u z) (way_distinct t (way t u hu)))
        (distinct_append (distinct_up_to (meet t u z) (way_distinct t (way t z hz)))
        (cons (free (meet t u z) (home-meet t u z hu hz) (under_self t (meet t u z) (home-meet t u z hu hz))) d)
        (λ y p. tail_not z y hz (meet-two t u z hu hz) p))
        (λ y p.
        has-append y (up_to (meet t u z) (route t z)) (meet t u z ∷ rest) ∙
        ap₂ ◌||◌ (up_to_less y (meet t u z) (route t z) (meet-none t u z y hu hz p)) (tail_not u y hu (meet_one t u z hu hz) p))

    along-below : (y : ℕ) → has y (along u z rest) ≡ true → y < t.size
    unfolding along has
    along-below y m =
        let c = meet t u z in
        either (has y (up_to c (route t u))) (has y (up_to c (route t z) ++ (c ∷ rest)))
        (sym (has-append y (up_to c (route t u)) (up_to c (route t z) ++ (c ∷ rest))) ∙ m)
        (λ p. under-below u y hu lu (before_on t u c y p))
        (λ p n.
        either (has y (up_to c (route t z))) (has y (c ∷ rest)) (sym (has-append y (up_to c (route t z)) (c ∷ rest)) ∙ n)
        (λ q. under-below z y hz lz (before_on t z c y q))
        (λ q k.
        either (eqb c y) (has y rest) k
        (λ r. rw (← eqb-true c y r) (under-below z c hz lz (meet-two t u z hu hz)))
        (λ r j. low y j)))

    -- the way has at most as many nodes as there are
    along-few : length (up_to (meet t u z) (route t u)) + length (up_to (meet t u z) (route t z)) + 1 + length rest ≤ t.size
    unfolding along
    along-few =
        omega (
          arith,
          pigeons t.size (along u z rest) along_distinct along-below,
          length-append (up_to (meet t u z) (route t u)) (up_to (meet t u z) (route t z) ++ (meet t u z ∷ rest)),
          length-append (up_to (meet t u z) (route t z)) (meet t u z ∷ rest),
        )

  -- a tree path is no longer than as many links as there are nodes, less one
  pub apart_bound :
      (most : ℕ)
      → ((v : ℕ) → t.rise v ≤ most) → (u z : ℕ) → Home t u → Home t z → u < t.size → z < t.size
      → apart t u z + most ≤ t.size * most
  unfolding apart way_up has
  apart_bound most few u z hu hz lu lz =
      let c = meet t u z in
      let a = length (up_to c (route t u)) in
      let b = length (up_to c (route t z)) in
      let nodes : a + b + 1 ≤ t.size = omega (arith, along-few u z hu hz lu lz [] nil (λ y m. clash m refl) (λ y h p. refl)) in
      omega (
        arith,
        total_bound t.rise most few (up_to c (route t u)),
        total_bound t.rise most few (up_to c (route t z)),
        mul-le-mul_right most nodes,
        add-mul (a + b) 1 most,
        add-mul a b most,
        one-mul most,
      )

  module _ (x u z z' : ℕ) (hu : Home t u) (hz : Home t z) (hz' : Home t z') (lu : u < t.size) (lz : z < t.size)
      (lz' : z' < t.size) (pu : under t x u ≡ true) (pz : under t x z ≡ true) (pz' : under t x z' ≡ false) where
    -- a node under where the routes meet is in T(x), and so is not on the route of z'
    across : (y : ℕ) → Home t y → under t (meet t u z) y ≡ true → has y (route t z') ≡ false
    unfolding under
    across y h p =
        not_so (has y (route t z'))
        (λ e. clash (under_trans t y x z' hz' e (under_trans t (meet t u z) x y h p (meet-under t u z x hu hz pu pz))) pz')

    -- the way around has at most as many nodes as there are
    pub around-few : length (up_to (meet t u z) (route t u)) + length (up_to (meet t u z) (route t z)) + 1 + length (route t z') ≤ t.size
    around-few =
        along-few u z hu hz lu lz (route t z') (way_distinct t (way t z' hz')) (way-below (way t z' hz') lz') across

    module _ (most : ℕ) (few : (v : ℕ) → t.rise v ≤ most) (flat : (v : ℕ) → eqb v t.root ≡ true → t.rise v ≡ 0) where
      dist-few : {v : ℕ} {r : List ℕ} → Way t v r → total t.rise r + most ≤ length r * most
      unfolding total
      dist-few (top {u} e) = omega (arith, flat u e, suc-mul 0 most)
      dist-few (hop {u} {r} e w) = omega (arith, few u, dist-few w, suc-mul (length r) most)

      -- a way around is no longer than as many links as there are nodes, less one
      pub around_bound : (w : ℕ) → w ≤ most → apart t u z + w + dist t z' + most ≤ t.size * most
      unfolding apart way_up dist
      around_bound w k =
          let a = length (up_to (meet t u z) (route t u)) in
          let b = length (up_to (meet t u z) (route t z)) in
          let c = length (route t z') in
          shared a b c t.size most around-few w k _ _ _
          (total_bound t.rise most few (up_to (meet t u z) (route t u)))
          (total_bound t.rise most few (up_to (meet t u z) (route t z)))
          (dist-few (way t z' hz'))
