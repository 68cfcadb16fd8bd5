-- Routes. `Way t u r` says that r is the route of u to the root: the node alone at the root, else the node followed by the
-- route of its parent. Every induction on a tree goes over ways. Assumes nothing.
use Rattle.std.proofs.Common.{◌≡◌, ℕ, zero, suc, ◌+◌, ◌<◌, ◌≤◌, Bool, true, false, ◌||◌, eqb, List, [], ◌∷◌, ◌++◌, length, sym, refl, ap, ◌∙◌, subst}
use Rattle.std.proofs.Common.{not-suc-le-zero, arith, length-append, eq-eqb, ne_eqb, eqb-true}
use Rattle.rows.specs.Lists.{has, up_to, total}
use Rattle.rows.proofs.Tests.{clash, either, or_right}
use Rattle.rows.proofs.Listed.{has-append, has_head, total-append, up_to-here, up_to-past, up_to_less}
use Rattle.rows.proofs.Distinct.{Distinct, nil, cons}
use Rattle.tree.specs.Tree.{Tree, climb, route, arrives, has_route, dist, under, hops, way_up}

pub data Way (t : Tree) : ℕ → List ℕ → Type 0 where
  top : {u : ℕ} → eqb u t.root ≡ true → Way t u (u ∷ [])
  hop : {u : ℕ} {r : List ℕ} → eqb u t.root ≡ false → Way t (t.up u) r → Way t u (u ∷ r)

module _ (t : Tree) where
  -- whoever comes to the root within k nodes has the way that the climb writes
  pub way-climb : (k u : ℕ) → arrives t k u ≡ true → Way t u (climb t k u)
  unfolding arrives climb
  way-climb zero u h = clash h refl
  way-climb (suc k) u h = go (way-climb k (t.up u)) (eqb u t.root) refl
    where
      go : (arrives t k (t.up u) ≡ true → Way t (t.up u) (climb t k (t.up u))) → (b : Bool) → eqb u t.root ≡ b → Way t u (climb t (suc k) u)
      go ih true e = rw e (top e)
      go ih false e = rw e (hop e (ih (rw e at h)))

  -- a node has a route
  abbrev pub Home : ℕ → Type 0
  Home u = has_route t u ≡ true

  -- the route of a node that has one ends at the root: it is not cut
  pub way : (u : ℕ) → Home u → Way t u (route t u)
  unfolding route has_route
  way u h = way-climb t.size u h

  -- a node has one way
  pub way_only : {u : ℕ} {r s : List ℕ} → Way t u r → Way t u s → r ≡ s
  way_only (top e) (top f) = refl
  way_only (top e) (hop f w) = clash e f
  way_only (hop e w) (top f) = clash f e
  way_only (hop {u} e w) (hop f v) = ap (λ (l : List ℕ). u ∷ l) (way_only w v)

  -- a way of at most k nodes is met within k nodes
  way-arrives : {u : ℕ} {r : List ℕ} → Way t u r → (k : ℕ) → length r ≤ k → arrives t k u ≡ true
  unfolding arrives
  way-arrives (top e) zero l = absurd (not-suc-le-zero l)
  way-arrives (top e) (suc k) l = rw e
  way-arrives (hop e w) zero l = absurd (not-suc-le-zero l)
  way-arrives (hop e w) (suc k) l = rw e (way-arrives w k (omega arith))

  pub way_home : {u : ℕ} {r : List ℕ} → Way t u r → length r ≤ t.size → Home u
  unfolding has_route
  way_home w l = way-arrives w t.size l

  climb-length : (k u : ℕ) → length (climb t k u) ≤ k
  unfolding climb
  climb-length zero u = omega arith
  climb-length (suc k) u = go (climb-length k (t.up u)) (eqb u t.root) refl
    where
      go : length (climb t k (t.up u)) ≤ k → (b : Bool) → eqb u t.root ≡ b → length (climb t (suc k) u) ≤ suc k
      go l true e = rw e (omega arith)
      go l false e = rw e (omega arith)

  pub route-length : (u : ℕ) → length (route t u) ≤ t.size
  unfolding route
  route-length u = climb-length t.size u

  -- a way that has x goes on from x as the way of x
  way-has : {u : ℕ} {r : List ℕ} (x : ℕ) → Way t u r → has x r ≡ true → (s : List ℕ) × Way t x s × (r ≡ up_to x r ++ s)
  unfolding has
  way-has x (top {u} e) h =
      either (eqb u x) false h
      (λ q. (u ∷ [], subst (λ (n : ℕ). Way t n (u ∷ [])) (eqb-true u x q) (top e), rw (up_to-here u x [] q) refl))
      (λ q c. clash c refl)
  way-has x (hop {u} {r} e w) h =
      either (eqb u x) (has x r) h
      (λ q. (u ∷ r, subst (λ (n : ℕ). Way t n (u ∷ r)) (eqb-true u x q) (hop e w), rw (up_to-here u x r q) refl))
      (λ q c. let z = way-has x w c in (z.0, z.1, rw (up_to-past u x r q) (ap (λ (l : List ℕ). u ∷ l) z.2)))

  way_shorter : {u x : ℕ} {r s : List ℕ} → Way t u r → Way t x s → has x r ≡ true → length s ≤ length r
  way_shorter {x} {r} {s} w v h =
      let z = way-has x w h in
      let same : z.0 ≡ s = way_only z.1 v in
      omega (arith, length-append (up_to x r) z.0, ap length z.2, ap length same)

  -- what stands before c in a way has a longer way than c
  way-longer : {u c y : ℕ} {r s q : List ℕ} → Way t u r → Way t c s → Way t y q → has c r ≡ true → has y (up_to c r) ≡ true → length s < length q
  unfolding has
  way-longer {c} {y} (top {u} e) v p h g =
      either (eqb u c) false h (λ z. clash (rw (up_to-here u c [] z) at g) refl) (λ z n. clash n refl)
  way-longer {c} {y} {s} {q} (hop {u} {r} e w) v p h g =
      either (eqb u c) (has c r) h
      (λ z. clash (rw (up_to-here u c r z) at g) refl)
      (λ z n.
      either (eqb u y) (has y (up_to c r)) (rw (up_to-past u c r z) at g)
      (λ i.
      let same : u ∷ r ≡ q = way_only (hop e w) (subst (λ (m : ℕ). Way t m q) (sym (eqb-true u y i)) p) in
      omega (arith, way_shorter w v n, ap length same))
      (λ i m. way-longer w v p n m))

  pub way-root : {u : ℕ} {r : List ℕ} → Way t u r → has t.root r ≡ true
  unfolding has
  way-root (top e) = rw e
  way-root (hop e w) = rw e (way-root w)

  way_self : {u : ℕ} {r : List ℕ} → Way t u r → has u r ≡ true
  way_self (top {u} e) = has_head u []
  way_self (hop {u} {r} e w) = has_head u r

  pub way_distinct : {u : ℕ} {r : List ℕ} → Way t u r → Distinct r
  unfolding has
  way_distinct (top e) = cons refl nil
  way_distinct (hop {u} {r} e w) = cons (go (has u r) refl) (way_distinct w)
    where
      go : (b : Bool) → has u r ≡ b → has u r ≡ false
      go false f = f
      go true f = absurd (omega (arith, way_shorter w (hop e w) f))

  -- a way begins with its node
  pub way_head : {u : ℕ} {r : List ℕ} → Way t u r → (s : List ℕ) × (r ≡ u ∷ s)
  way_head (top e) = ([], refl)
  way_head (hop {u} {r} e w) = (r, refl)

  way_tail : {u : ℕ} {r : List ℕ} → Way t u r → eqb u t.root ≡ false → (s : List ℕ) × Way t (t.up u) s × (r ≡ u ∷ s)
  way_tail (top e) f = clash e f
  way_tail (hop {u} {r} e w) f = (r, w, refl)

  way-alone : {u : ℕ} {r : List ℕ} → Way t u r → eqb u t.root ≡ true → r ≡ u ∷ []
  way-alone (top e) f = refl
  way-alone (hop e w) f = clash f e

  -- the parent of a node that has a route has one
  pub home-step : (u : ℕ) → Home u → eqb u t.root ≡ false → Home (t.up u)
  home-step u h e =
      let z = way_tail (way u h) e in
      way_home z.1 (omega (arith, route-length u, ap length z.2))

  -- the route of a node is the node followed by the route of its parent; that of the root is the root alone
  pub route-step : (u : ℕ) → Home u → eqb u t.root ≡ false → route t u ≡ u ∷ route t (t.up u)
  route-step u h e = way_only (way u h) (hop e (way (t.up u) (home-step u h e)))

  pub route-root : (u : ℕ) → Home u → eqb u t.root ≡ true → route t u ≡ u ∷ []
  route-root u h e = way-alone (way u h) e

  -- a node on a route has a route, and the route goes on as that
  pub home-up : (u x : ℕ) → Home u → under t x u ≡ true → Home x
  unfolding under
  home-up u x h e =
      let z = way-has x (way u h) e in
      way_home z.1 (omega (arith, route-length u, length-append (up_to x (route t u)) z.0, ap length z.2))

  pub route-cut : (u x : ℕ) → Home u → under t x u ≡ true → route t u ≡ up_to x (route t u) ++ route t x
  unfolding under
  route-cut u x h e =
      let z = way-has x (way u h) e in
      z.2 ∙ ap (λ (l : List ℕ). up_to x (route t u) ++ l) (way_only z.1 (way x (home-up u x h e)))

  pub dist-cut : (u x : ℕ) → Home u → under t x u ≡ true → dist t u ≡ way_up t x u + dist t x
  unfolding dist way_up
  dist-cut u x h e = ap (total t.rise) (route-cut u x h e) ∙ total-append t.rise (up_to x (route t u)) (route t x)

  -- the distance of a node from that of its parent
  pub dist-step : (u : ℕ) → Home u → eqb u t.root ≡ false → dist t u ≡ t.rise u + dist t (t.up u)
  unfolding dist total
  dist-step u h e = ap (total t.rise) (route-step u h e)

  pub dist-root : (u : ℕ) → Home u → eqb u t.root ≡ true → t.rise u ≡ 0 → dist t u ≡ 0
  unfolding dist total
  dist-root u h e flat = omega (arith, ap (total t.rise) (route-root u h e))

  pub hops-cut : (u x : ℕ) → Home u → under t x u ≡ true → length (route t u) ≡ hops t x u + length (route t x)
  unfolding hops
  hops-cut u x h e = ap length (route-cut u x h e) ∙ length-append (up_to x (route t u)) (route t x)

  -- a node is no nearer to the root than what is above it
  pub dist-up : (u x : ℕ) → Home u → under t x u ≡ true → dist t x ≤ dist t u
  dist-up u x h e = omega (arith, dist-cut u x h e)

  -- T(x): x is in it, the root's has every node, and what is below something below x is below x
  pub under_self : (x : ℕ) → Home x → under t x x ≡ true
  unfolding under
  under_self x h = way_self (way x h)

  pub under-root : (u : ℕ) → Home u → under t t.root u ≡ true
  unfolding under
  under-root u h = way-root (way u h)

  pub under_trans : (x y u : ℕ) → Home u → under t x u ≡ true → under t y x ≡ true → under t y u ≡ true
  unfolding under
  under_trans x y u h e f =
      rw (route-cut u x h e, has-append y (up_to x (route t u)) (route t x))
      (or_right (has y (up_to x (route t u))) (has y (route t x)) f)

  -- how many nodes a route has
  pub nodes_of_lem : (u : ℕ) → Home u → length (route t u) ≡ hops t t.root u + 1
  nodes_of_lem u h =
      let hr = home-up u t.root h (under-root u h) in
      omega (
        arith,
        hops-cut u t.root h (under-root u h),
        ap length (route-root t.root hr (eq-eqb t.root t.root refl)),
      )

  -- under x: before c on the route, or under x at c
  pub under-cut : (u c x : ℕ) → Home u → under t c u ≡ true → under t x u ≡ (has x (up_to c (route t u)) || under t x c)
  unfolding under
  under-cut u c x h e = ap (has x) (route-cut u c h e) ∙ has-append x (up_to c (route t u)) (route t c)

  -- what stands before c on a route has a longer route than c; what stands on the route of c has none longer
  pub before-longer : (u c x : ℕ) → Home u → under t c u ≡ true → has x (up_to c (route t u)) ≡ true → Home c → Home x → length (route t c) < length (route t x)
  unfolding under
  before-longer u c x h e p hc hx = way-longer (way u h) (way c hc) (way x hx) e p

  pub after_shorter : (c x : ℕ) → Home c → Home x → under t x c ≡ true → length (route t x) ≤ length (route t c)
  unfolding under
  after_shorter c x hc hx f = way_shorter (way c hc) (way x hx) f

  pub before-not-after : (u c x : ℕ) → Home u → under t c u ≡ true → has x (up_to c (route t u)) ≡ true → under t x c ≡ false
  before-not-after u c x h e p = go (under t x c) refl
    where
      go : (b : Bool) → under t x c ≡ b → under t x c ≡ false
      go false f = f
      go true f =
          let hc = home-up u c h e in
          let hx = home-up c x hc f in
          let more = before-longer u c x h e p hc hx in
          let less = after_shorter c x hc hx f in
          absurd (omega arith)

  -- what stands before c on a route stands on the route
  pub before_on : (u c y : ℕ) → has y (up_to c (route t u)) ≡ true → under t y u ≡ true
  unfolding under
  before_on u c y p = go (has y (route t u)) refl
    where
      go : (b : Bool) → has y (route t u) ≡ b → has y (route t u) ≡ true
      go true e = e
      go false e = clash p (up_to_less y c (route t u) e)

  -- and is in T(c)
  pub before-under : (u c y : ℕ) → Home u → under t c u ≡ true → has y (up_to c (route t u)) ≡ true → under t c y ≡ true
  unfolding under
  before-under u c y h e p = go (has c (up_to y (route t u))) refl
    where
      q : under t y u ≡ true
      q = before_on u c y p

      go : (b : Bool) → has c (up_to y (route t u)) ≡ b → under t c y ≡ true
      go false f = sym (ap (λ (b : Bool). b || under t c y) f) ∙ sym (under-cut u y c h q) ∙ e
      go true f =
          let hc = way c (home-up u c h e) in
          let hy = way y (home-up u y h q) in
          absurd (omega (arith, way-longer (way u h) hy hc q f, way-longer (way u h) hc hy e p))

  -- only the root is above the root
  pub above_root : (x : ℕ) → Home t.root → under t x t.root ≡ true → x ≡ t.root
  unfolding under has
  above_root x h e =
      let alone = route-root t.root h (eq-eqb t.root t.root refl) in
      either (eqb t.root x) false (rw alone at e) (λ q. sym (eqb-true t.root x q)) (λ q c. clash c refl)

  -- x is over a node that is not the root exactly where it is the node or over its parent
  pub under-step : (u x : ℕ) → Home u → eqb u t.root ≡ false → under t x u ≡ (eqb u x || under t x (t.up u))
  unfolding under has
  under-step u x h e = ap (has x) (route-step u h e)

  -- a node of T(x) that is not x is not the root, and its parent is in T(x)
  pub short_of : (u x : ℕ) → Home u → under t x u ≡ true → (u ≡ x → ⊥) → eqb u t.root ≡ false
  short_of u x h p n =
      ne_eqb u t.root
      (λ q. n (q ∙ sym (above_root x (subst Home q h) (subst (λ (v : ℕ). under t x v ≡ true) q p))))

  pub over_next : (u x : ℕ) → Home u → under t x u ≡ true → (u ≡ x → ⊥) → under t x (t.up u) ≡ true
  over_next u x h p n = rw (ne_eqb u x n) at (sym (under-step u x h (short_of u x h p n)) ∙ p)
