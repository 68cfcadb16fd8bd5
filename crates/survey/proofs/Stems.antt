-- The turn and the base of a node, from its parent's turn: no difference goes below 0 and no sum wraps. Assumes nothing.
use mathlib.Core.Path.{◌≡◌, refl, sym, ap, ◌∙◌}
use mathlib.Core.Bool.{Bool, true, false}
use Prim.Native.Nat.{ℕ, ◌+◌, ◌*◌, ◌-◌, ◌<◌, ◌≤◌}
use native.Mathlib.Nat.{mul-le-mul, mul-le-mul_right, zero-mul, mul-zero, sub_self, add-mul, mul-add}
use native.Mathlib.Omega.{arith}
use lib.Dec.{eqb}
use borrow.Author.Tests.{eq-eqb}
use Rattle.edition.specs.Limits.{node_limit, longest}
use Rattle.rows.specs.Count.{only_if}
use Rattle.rows.specs.Lists.{total}
use Rattle.rows.proofs.Counting.{sum_bound, sum_le, only_small}
use Rattle.rows.proofs.Listed.{total_bound}
use Rattle.tree.specs.Tree.{Tree, route, dist, under, inside}
use Rattle.tree.proofs.Ways.{Home, route-step, route-root, route-length, under_self, under_trans, dist-up, dist-root}
use Rattle.tree.proofs.Climbing.{up_above}
use Rattle.tree.proofs.Answering.{dist-small}
use Rattle.survey.specs.Known.{count, weight, stem_at, stem, base, turn}

only_le : (a b : Bool) (v : ℕ) → (a ≡ true → b ≡ true) → only_if a v ≤ only_if b v
unfolding only_if
only_le true b v h = rw (h refl) (omega arith)
only_le false b v h = omega arith

-- the products of a step, over plain numbers: c and k are the counts of a node and its parent, d and e their distances
step-turn : (c k d e s r : ℕ) → c ≤ k → e ≤ d → s ≡ (k - c) * e + r → 2 * (c * d + s) ≡ 2 * (k * e + r) + 2 * (c * (d - e))
step-turn c k d e s r l m q =
    let most : c + (k - c) ≡ k = omega arith in
    let far : (d - e) + e ≡ d = omega arith in
    omega (
      arith,
      ap (λ (j : ℕ). j * e) most,
      add-mul c (k - c) e,
      ap (λ (j : ℕ). c * j) far,
      mul-add c (d - e) e,
    )

module _ (t : Tree) where
  pub count-few : (x : ℕ) → count t x ≤ t.size
  unfolding count inside
  count-few x =
      omega (arith, sum_bound (λ u. only_if (under t x u) 1) t.size 1 (λ u l. only_small (under t x u) 1 1 (λ e. omega arith)))

  module _ (all : (u : ℕ) → u < t.size → Home t u) (v : ℕ) (h : Home t v) (n : eqb v t.root ≡ false) where
    above : under t (t.up v) v ≡ true
    above = up_above t v h v (under_self t v h) n

    count-up : count t v ≤ count t (t.up v)
    unfolding count inside
    count-up =
        sum_le (λ u. only_if (under t v u) 1) (λ u. only_if (under t (t.up v) u) 1) t.size
        (λ u l. only_le (under t v u) (under t (t.up v) u) 1 (λ q. under_trans t v (t.up v) u (all u l) q above))

    pub near_up : dist t (t.up v) ≤ dist t v
    near_up = dist-up t v (t.up v) h above

    stem-step : stem t v ≡ (count t (t.up v) - count t v) * dist t (t.up v) + stem t (t.up v)
    unfolding stem stem_at total
    stem-step = ap (total (stem_at t)) (route-step t v h n)

    pub turn_step : turn t (t.up v) + 2 * (count t v * (dist t v - dist t (t.up v))) ≡ turn t v
    unfolding turn
    turn_step =
        sym (step-turn (count t v) (count t (t.up v)) (dist t v) (dist t (t.up v)) (stem t v) (stem t (t.up v)) count-up near_up stem-step)

  pub base-turn : (v : ℕ) → base t v + 2 * (count t v * dist t v) ≡ weight t v + turn t v
  unfolding base turn
  base-turn v = omega arith

  -- the root's turn is 0, and its base is its weight
  module _ (top : t.up t.root ≡ t.root) (flat : t.rise t.root ≡ 0) (home : Home t t.root) where
    same : eqb t.root t.root ≡ true
    same = eq-eqb t.root t.root refl

    still : stem_at t t.root ≡ 0
    unfolding stem_at
    still =
        ap (λ (c : ℕ). c * dist t (t.up t.root)) (ap (λ (y : ℕ). count t y - count t t.root) top ∙ sub_self (count t t.root))
        ∙ zero-mul (dist t (t.up t.root))

    stem-top : stem t t.root ≡ 0
    unfolding stem total
    stem-top = omega (arith, ap (total (stem_at t)) (route-root t t.root home same), still)

    near_top : dist t t.root ≡ 0
    near_top = dist-root t t.root home same flat

    pub turn-top : turn t t.root ≡ 0
    unfolding turn
    turn-top = omega (arith, ap (λ (d : ℕ). count t t.root * d) near_top, mul-zero (count t t.root), stem-top)

    pub base-top : base t t.root ≡ weight t t.root
    unfolding base
    base-top = omega (arith, stem-top)

  module _ (few : t.size ≤ node_limit) (short : (v : ℕ) → t.rise v ≤ longest) where
    pub near_few : (u : ℕ) → dist t u ≤ node_limit * longest
    near_few u = omega (arith, dist-small t longest short u, mul-le-mul_right longest few)

    pub product_few : (x u : ℕ) → count t x * dist t u ≤ node_limit * (node_limit * longest)
    product_few x u = mul-le-mul {n₂ = node_limit} (omega (arith, count-few x)) (near_few u)

    stem_at-few : (u : ℕ) → stem_at t u ≤ node_limit * (node_limit * longest)
    unfolding stem_at
    stem_at-few u = mul-le-mul {n₂ = node_limit} (omega (arith, count-few (t.up u))) (near_few (t.up u))

    stem-few : (u : ℕ) → stem t u ≤ node_limit * (node_limit * (node_limit * longest))
    unfolding stem
    stem-few u =
        omega (
          arith,
          total_bound (stem_at t) (node_limit * (node_limit * longest)) stem_at-few (route t u),
          mul-le-mul_right (node_limit * (node_limit * longest)) (route-length t u),
          mul-le-mul_right (node_limit * (node_limit * longest)) few,
        )

    pub turn-few : (u : ℕ) → turn t u ≤ 2 * (node_limit * (node_limit * longest) + node_limit * (node_limit * (node_limit * longest)))
    unfolding turn
    turn-few u = omega (arith, product_few u u, stem-few u)

    pub weight-few : (u : ℕ) → weight t u ≤ node_limit * (node_limit * longest)
    unfolding weight inside
    weight-few x =
        omega (
          arith,
          sum_bound (λ u. only_if (under t x u) (dist t u)) t.size (node_limit * longest)
              (λ u l. only_small (under t x u) (dist t u) (node_limit * longest) (λ e. near_few u)),
          mul-le-mul_right (node_limit * longest) few,
        )
