-- Two climbs, from u and from z. As long as the one that goes on is not above the other, neither passes a node that is above where
-- the other began: so every node passed has exactly one of u and z below it, and where both have come to one node the routes meet.
-- Which of the two may go on is for whoever climbs to see: by hops from the root (`longer-not-above`), or by the nodes below, as
-- the search does. Assumes nothing.
use Rattle.std.proofs.Common.{◌≡◌, ℕ, ◌+◌, ◌≤◌, true, false, ◌||◌, eqb, length, sym, ◌∙◌, subst, ap₂, arith, ne_eqb, eqb-true}
use Rattle.rows.specs.Lists.{has, up_to}
use Rattle.rows.proofs.Tests.{clash, either, not_so, or_false}
use Rattle.rows.proofs.Listed.{meets_only}
use Rattle.tree.specs.Tree.{Tree, route, under, way_up, meet, apart}
use Rattle.tree.proofs.Ways.{Home, under_self, under-cut, under-root}
use Rattle.tree.proofs.Climbing.{on-parent, passed_none, passed_more}
use Rattle.tree.proofs.Meeting.{longer-below}

-- climbs from u and z that have come to a and b, and have passed no node that is above where the other began
pub record TwoClimbs (t : Tree) (u z a b : ℕ) : Type 0 where
  pub one : under t a u ≡ true
  pub two : under t b z ≡ true
  pub one_free : (v : ℕ) → has v (up_to a (route t u)) ≡ true → under t v z ≡ false
  pub two-free : (v : ℕ) → has v (up_to b (route t z)) ≡ true → under t v u ≡ false

module _ (t : Tree) where
  -- of two nodes that are not one, the one whose route has no fewer nodes is not above the other
  pub longer-not-above : (a b : ℕ) → Home t b → length (route t b) ≤ length (route t a) → (a ≡ b → ⊥) → under t a b ≡ false
  longer-not-above a b h l n = not_so (under t a b) (λ p. omega (arith, longer-below t a b h p n))

  module _ {u z : ℕ} (hu : Home t u) (hz : Home t z) where
    pub climbs_start : TwoClimbs t u z u z
    climbs_start =
        record {
          one = under_self t u hu;
          two = under_self t z hz;
          one_free = λ v m. clash m (passed_none t u hu v);
          two-free = λ v m. clash m (passed_none t z hz v);
        }

  -- what is said of the first climb holds of the second too
  pub climbs_turn : {u z a b : ℕ} → TwoClimbs t u z a b → TwoClimbs t z u b a
  climbs_turn c = record { one = c.two; two = c.one; one_free = c.two-free; two-free = c.one_free }

  module _ {u z a b : ℕ} (hu : Home t u) (hz : Home t z) (c : TwoClimbs t u z a b) where
    -- a node that neither has passed is above where a climb is exactly where it is above where that climb began
    pub not_passed :
        (v : ℕ)
        → (has v (up_to a (route t u)) || has v (up_to b (route t z))) ≡ false
        → (under t v u ≡ under t v a) × (under t v z ≡ under t v b)
    not_passed v n =
        let p = or_false (has v (up_to a (route t u))) (has v (up_to b (route t z))) n in
        (under-cut t u a v hu c.one ∙ rw p.0, under-cut t z b v hz c.two ∙ rw p.1)

    -- where both have come to one node, the routes meet there, and the tree path is what they have climbed
    pub climbs_meet : a ≡ b → a ≡ meet t u z
    unfolding meet under
    climbs_meet q =
        meets_only (route t u) (route t z) a
        (record { one = c.one; two = subst (λ (v : ℕ). has v (route t z) ≡ true) (sym q) c.two; none = c.one_free })

    pub climbs_apart : a ≡ b → way_up t a u + way_up t b z ≡ apart t u z
    unfolding apart
    climbs_apart q = rw (← q, climbs_meet q)

    module _ (off : under t a b ≡ false) where
      -- the first is not above where the second began, so it is not the root, and may go on
      pub climbs_off : under t a z ≡ false
      climbs_off =
          under-cut t z b a hz c.two ∙ ap₂ ◌||◌ (not_so (has a (up_to b (route t z))) (λ m. clash c.one (c.two-free a m))) off

      pub climbs_below : eqb a t.root ≡ false
      climbs_below = ne_eqb a t.root (λ q. clash (under-root t z hz) (subst (λ (v : ℕ). under t v z ≡ false) q climbs_off))

      fresh : (v : ℕ) → (has v (up_to a (route t u)) || eqb a v) ≡ true → under t v z ≡ false
      fresh v m =
          either (has v (up_to a (route t u))) (eqb a v) m (c.one_free v)
          (λ n q. subst (λ (w : ℕ). under t w z ≡ false) (eqb-true a v q) climbs_off)

      pub climbs_next : TwoClimbs t u z (t.up a) b
      climbs_next =
          record {
            one = on-parent t u hu a c.one climbs_below;
            two = c.two;
            one_free = λ v m. fresh v (sym (passed_more t u hu a c.one climbs_below v) ∙ m);
            two-free = c.two-free;
          }
