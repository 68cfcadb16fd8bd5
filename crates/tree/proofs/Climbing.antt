-- The climbing cursor against the route. From its start the cursor's hops and distance are those of the node that it has come to;
-- no sum wraps, since no climb takes more steps than there can be nodes. Assumes nothing.
use Rattle.std.proofs.Common.{◌≡◌, ℕ, suc, ◌+◌, ◌-◌, ◌*◌, ◌%◌, ◌^◌, ◌<◌, ◌≤◌, Bool, true, false, ◌||◌, eqb, List, [], ◌∷◌, ◌++◌, length, sym, refl, ap, ◌∙◌}
use Rattle.std.proofs.Common.{subst, append_assoc, mod-eq_of_lt, arith, length-append, eq-eqb, ne_eqb, eqb-true}
use Rattle.edition.specs.Limits.{node_limit, longest}
use Rattle.rows.specs.Lists.{has, up_to, total}
use Rattle.rows.proofs.Tests.{clash, either, or_false, or_right, or_none, not_so}
use Rattle.rows.proofs.Listed.{has-append, total-append, total_bound, up_to-here, up_to-past}
use Rattle.tree.specs.declared.Climb.{Climb}
use Rattle.tree.specs.Tree.{Tree, climb, route, arrives, dist, under, hops, way_up}
use Rattle.tree.specs.Answers.{begun, stepped}
use Rattle.tree.specs.Work.{Rooted, Along}
use Rattle.tree.proofs.Ways.{Way, top, hop, Home, way, route-step, route-length, home-up, home-step, route-cut, under_self, under_trans}
use Rattle.tree.proofs.Ways.{before-longer, after_shorter, hops-cut, way_head, route-root, under-cut}

-- a sum that is small enough is kept
pub kept : (v : ℕ) → v < 2 ^ 64 → v % 2 ^ 64 ≡ v
kept v l = mod-eq_of_lt l

module _ (t : Tree) where
  pub climb-none : (u : ℕ) → climb t 0 u ≡ []
  unfolding climb
  climb-none u = refl

  pub climb-root : (k u : ℕ) → eqb u t.root ≡ true → climb t (suc k) u ≡ u ∷ []
  unfolding climb
  climb-root k u e = rw e

  pub climb-up : (k u : ℕ) → eqb u t.root ≡ false → climb t (suc k) u ≡ u ∷ climb t k (t.up u)
  unfolding climb
  climb-up k u e = rw e

  -- does a climb of n nodes from u come to the root: the search for a route
  pub record Finding (n u k v : ℕ) : Type 0 where
    pub low : k ≤ n
    pub same : arrives t n u ≡ arrives t (n - k) v

  pub finding_start : (n u : ℕ) → Finding n u 0 u
  finding_start n u = record { low = omega arith; same = ap (λ (m : ℕ). arrives t m u) (omega arith) }

  pub finding_more : (n u k v : ℕ) → Finding n u k v → k < n → (eqb v t.root ≡ false) → (w : ℕ) → w ≡ t.up v → Finding n u (k + 1) w
  unfolding arrives
  finding_more n u k v f l e w q =
      let m : n - k ≡ suc (n - (k + 1)) = omega arith in
      record { low = omega arith; same = f.same ∙ ap (λ (j : ℕ). arrives t j v) m ∙ rw (e, q) }

  pub finding_found : (n u k v : ℕ) → Finding n u k v → k < n → eqb v t.root ≡ true → true ≡ arrives t n u
  unfolding arrives
  finding_found n u k v f l e =
      let m : n - k ≡ suc (n - (k + 1)) = omega arith in
      sym (f.same ∙ ap (λ (j : ℕ). arrives t j v) m ∙ rw e)

  pub finding_none : (n u k v : ℕ) → Finding n u k v → n ≤ k → false ≡ arrives t n u
  unfolding arrives
  finding_none n u k v f l =
      let m : n - k ≡ 0 = omega arith in
      sym (f.same ∙ ap (λ (j : ℕ). arrives t j v) m)

  -- a climb of k steps from u, of a route of n nodes, that has not come to the root
  pub record Rising (n u k : ℕ) (c : Climb) : Type 0 where
    pub low : k ≤ n
    pub count : c.hops ≡ k
    hops_left : length (up_to t.root (climb t n u)) ≡ k + length (up_to t.root (climb t (n - k) c.node))
    dist_left : total t.rise (climb t n u) ≡ c.dist + total t.rise (climb t (n - k) c.node)
    pub small : c.dist ≤ k * longest

  module _ (few : (v : ℕ) → t.rise v ≤ longest) (flat : (v : ℕ) → eqb v t.root ≡ true → t.rise v ≡ 0) (n u : ℕ) where
    pub rising-start : (c : Climb) → c ≡ begun u → Rising n u 0 c
    unfolding begun
    rising-start c q = rw q (record { low = omega arith; count = refl; hops_left = same; dist_left = sums; small = omega arith })
      where
        whole : climb t n u ≡ climb t (n - 0) u
        whole = ap (λ (m : ℕ). climb t m u) (omega arith)

        same : length (up_to t.root (climb t n u)) ≡ 0 + length (up_to t.root (climb t (n - 0) u))
        same = omega (arith, ap (λ (r : List ℕ). length (up_to t.root r)) whole)

        sums : total t.rise (climb t n u) ≡ 0 + total t.rise (climb t (n - 0) u)
        sums = omega (arith, ap (total t.rise) whole)

    module _ (k : ℕ) (c : Climb) (r : Rising n u k c) where
      left_is : k < n → n - k ≡ suc (n - (k + 1))
      left_is l = omega arith

      pub rising-more : n ≤ node_limit → k < n → eqb c.node t.root ≡ false → (d : Climb) → d ≡ stepped t c → Rising n u (k + 1) d
      unfolding stepped total
      rising-more s l e d q =
          let more = climb-up (n - (k + 1)) c.node e in
          let cut = ap (λ (m : ℕ). climb t m c.node) (left_is l) ∙ more in
          let one = kept (c.hops + 1) (omega (arith, r.count)) in
          let two = kept (c.dist + t.rise c.node) (omega (arith, r.small, few c.node)) in
          rw (q, one, two)
          (record {
            low = omega arith;
            count = omega (arith, r.count);
            hops_left =
                omega (
                  arith,
                  r.hops_left,
                  ap (λ (z : List ℕ). length (up_to t.root z)) cut,
                  ap length (up_to-past c.node t.root (climb t (n - (k + 1)) (t.up c.node)) e),
                );
            dist_left = omega (arith, r.dist_left, ap (total t.rise) cut);
            small = omega (arith, r.small, few c.node);
          })

      pub rising-root : k < n → eqb c.node t.root ≡ true → (route t u ≡ climb t n u) → Rooted t u c
      unfolding hops dist total
      rising-root l e w =
          let cut = ap (λ (m : ℕ). climb t m c.node) (left_is l) ∙ climb-root (n - (k + 1)) c.node e in
          record {
            hops-is =
                omega (
                  arith,
                  r.count,
                  r.hops_left,
                  ap (λ (z : List ℕ). length (up_to t.root z)) w,
                  ap (λ (z : List ℕ). length (up_to t.root z)) cut,
                  ap length (up_to-here c.node t.root [] e),
                );
            dist-is = omega (arith, r.dist_left, ap (total t.rise) w, ap (total t.rise) cut, flat c.node e);
          }

      pub rising-end : n ≤ k → (route t u ≡ climb t n u) → Rooted t u c
      unfolding hops dist total up_to
      rising-end l w =
          let gone : n - k ≡ 0 = omega arith in
          let cut = ap (λ (m : ℕ). climb t m c.node) gone ∙ climb-none c.node in
          record {
            hops-is =
                omega (
                  arith,
                  r.count,
                  r.hops_left,
                  ap (λ (z : List ℕ). length (up_to t.root z)) w,
                  ap (λ (z : List ℕ). length (up_to t.root z)) cut,
                );
            dist-is = omega (arith, r.dist_left, ap (total t.rise) w, ap (total t.rise) cut);
          }

  -- the way up goes on by one node
  up_to_last : (a b : List ℕ) (x : ℕ) → has x a ≡ false → up_to x (a ++ (x ∷ b)) ≡ a
  unfolding has
  up_to_last [] b x h = up_to-here x x b (eq-eqb x x refl)
  up_to_last (u ∷ a) b x h =
      let z = or_false (eqb u x) (has x a) h in
      up_to-past u x (a ++ (x ∷ b)) z.0 ∙ ap (λ (l : List ℕ). u ∷ l) (up_to_last a b x z.1)

  -- a way up is no longer than its hops can be
  way-small : ((v : ℕ) → t.rise v ≤ longest) → (u x : ℕ) → way_up t x u ≤ hops t x u * longest
  unfolding way_up hops
  way-small few u x = total_bound t.rise longest few (up_to x (route t u))

  -- what the cursor has counted at most
  module _ (u : ℕ) (hu : Home t u) (c : Climb) (a : Along t u c) where
    pub along-few : c.hops < t.size
    along-few =
        omega (
          arith,
          a.hops-is,
          hops-cut t u c.node hu a.on,
          route-length t u,
          ap length (way_head t (way t c.node (home-up t u c.node hu a.on))).1,
        )

    pub along-short : ((v : ℕ) → t.rise v ≤ longest) → c.dist ≤ c.hops * longest
    along-short few = omega (arith, a.hops-is, a.dist-is, way-small few u c.node)

  module _ (u : ℕ) (hu : Home t u) (x : ℕ) (px : under t x u ≡ true) (nx : eqb x t.root ≡ false) where
    hx : Home t x
    hx = home-up t u x hu px

    step-route : route t x ≡ x ∷ route t (t.up x)
    step-route = route-step t x hx nx

    up-home : Home t (t.up x)
    up-home = home-step t x hx nx

    pub shorter : length (route t x) ≡ suc (length (route t (t.up x)))
    shorter = ap length step-route

    pub up_above : under t (t.up x) x ≡ true
    unfolding under has
    up_above = rw step-route (or_right (eqb x (t.up x)) (has (t.up x) (route t (t.up x))) (under_self t (t.up x) up-home))

    pub on-parent : under t (t.up x) u ≡ true
    on-parent = under_trans t x (t.up x) u hu px up_above

    not-before : has (t.up x) (up_to x (route t u)) ≡ false
    not-before =
        not_so (has (t.up x) (up_to x (route t u)))
        (λ p. omega (arith, before-longer t u x (t.up x) hu px p hx up-home, shorter))

    not_self : eqb x (t.up x) ≡ false
    not_self = ne_eqb x (t.up x) (λ q. omega (arith, ap (λ (v : ℕ). length (route t v)) q, shorter))

    passed_not : has (t.up x) (up_to x (route t u) ++ (x ∷ [])) ≡ false
    unfolding has
    passed_not = rw (has-append (t.up x) (up_to x (route t u)) (x ∷ []), not-before, not_self)

    -- the way up from u to the parent of x is the way up to x, and x
    pub way_on : up_to (t.up x) (route t u) ≡ up_to x (route t u) ++ (x ∷ [])
    way_on =
        let h = way_head t (way t (t.up x) up-home) in
        let whole : route t u ≡ (up_to x (route t u) ++ (x ∷ [])) ++ (t.up x ∷ h.0) =
        route-cut t u x hu px ∙ ap (λ (l : List ℕ). up_to x (route t u) ++ l) (step-route ∙ ap (λ (l : List ℕ). x ∷ l) h.1) ∙
        sym (append_assoc (up_to x (route t u)) (x ∷ []) (t.up x ∷ h.0)) in
        ap (up_to (t.up x)) whole ∙ up_to_last (up_to x (route t u) ++ (x ∷ [])) h.0 (t.up x) passed_not

    hops-on : hops t (t.up x) u ≡ hops t x u + 1
    unfolding hops
    hops-on = omega (arith, ap length way_on, length-append (up_to x (route t u)) (x ∷ []))

    dist-on : way_up t (t.up x) u ≡ way_up t x u + t.rise x
    unfolding way_up total
    dist-on = omega (arith, ap (total t.rise) way_on, total-append t.rise (up_to x (route t u)) (x ∷ []))

    hops-small : hops t x u + 1 ≤ t.size
    hops-small = omega (arith, hops-cut t u x hu px, route-length t u, shorter)

    -- a step of the cursor
    pub along-step :
        t.size ≤ node_limit
        → ((v : ℕ) → t.rise v ≤ longest) → (c : Climb) → c.node ≡ x → Along t u c → (d : Climb) → d ≡ stepped t c
        → Along t u d
    unfolding stepped
    along-step s few c e a d q =
        let far = way-small few u x in
        let h : c.hops ≡ hops t x u = a.hops-is ∙ ap (λ (v : ℕ). hops t v u) e in
        let w : c.dist ≡ way_up t x u = a.dist-is ∙ ap (λ (v : ℕ). way_up t v u) e in
        let one = kept (c.hops + 1) (omega (arith, hops-small)) in
        let two = kept (c.dist + t.rise c.node) (omega (arith, hops-small, few c.node)) in
        rw (q, one, two, e)
        (record { on = on-parent; hops-is = omega (arith, hops-on); dist-is = omega (arith, dist-on, ap t.rise e) })

  pub start-cut : (u : ℕ) → Home t u → up_to u (route t u) ≡ []
  start-cut u h = let z = way_head t (way t u h) in ap (up_to u) z.1 ∙ up_to-here u u z.0 (eq-eqb u u refl)

  -- the nodes that a climb has passed: none where it begins, with each step the node that it leaves, and at the
  -- root all that are above where it began, but for the root
  pub passed_none : (u : ℕ) → Home t u → (v : ℕ) → has v (up_to u (route t u)) ≡ false
  unfolding has
  passed_none u h v = rw (start-cut u h)

  pub passed_more :
      (u : ℕ)
      → Home t u → (a : ℕ) → under t a u ≡ true → eqb a t.root ≡ false → (v : ℕ)
      → has v (up_to (t.up a) (route t u)) ≡ (has v (up_to a (route t u)) || eqb a v)
  unfolding has
  passed_more u h a p r v =
      ap (has v) (way_on u h a p r) ∙ has-append v (up_to a (route t u)) (a ∷ []) ∙
      ap (λ (b : Bool). has v (up_to a (route t u)) || b) (or_none (eqb a v))

  pub passed_all : (u : ℕ) → Home t u → (a : ℕ) → under t a u ≡ true → eqb a t.root ≡ true → (v : ℕ) → under t v u ≡ (has v (up_to a (route t u)) || eqb a v)
  unfolding under has
  passed_all u h a p r v =
      under-cut t u a v h p ∙
      ap (λ (b : Bool). has v (up_to a (route t u)) || b) (ap (has v) (route-root t a (home-up t u a h p) r) ∙ or_none (eqb a v))

  -- the cursor where it begins
  pub along-start : (u : ℕ) → Home t u → (c : Climb) → c ≡ begun u → Along t u c
  unfolding begun hops way_up total
  along-start u h c q =
      rw q
      (record {
        on = under_self t u h;
        hops-is = omega (arith, ap length (start-cut u h));
        dist-is = omega (arith, ap (total t.rise) (start-cut u h));
      })

  -- what holds of z, and of the parent of each node on the route of z of which it holds, holds all along the route
  module _ (P : ℕ → Type 0) (z : ℕ) (hz : Home t z) (step : (x : ℕ) → under t x z ≡ true → eqb x t.root ≡ false → P x → P (t.up x)) where
    way-all : {v : ℕ} {r : List ℕ} → Way t v r → under t v z ≡ true → P v → (x : ℕ) → has x r ≡ true → P x
    unfolding has
    way-all (top {u} e) o p x h = either (eqb u x) false h (λ q. subst P (eqb-true u x q) p) (λ q c. clash c refl)
    way-all (hop {u} {r} e w) o p x h =
        either (eqb u x) (has x r) h
        (λ q. subst P (eqb-true u x q) p)
        (λ q c. way-all w (on-parent z hz u o e) (step u o e p) x c)

    pub along-all : P z → (x : ℕ) → under t x z ≡ true → P x
    unfolding under
    along-all p x h = way-all (way t z hz) (under_self t z hz) p x h

  -- the parent of a node is not below it
  pub below-not : (x : ℕ) → Home t x → eqb x t.root ≡ false → under t x (t.up x) ≡ false
  below-not x h e =
      not_so (under t x (t.up x))
      (λ p. omega (arith, after_shorter t (t.up x) x (home-step t x h e) h p, shorter x h x (under_self t x h) e))
