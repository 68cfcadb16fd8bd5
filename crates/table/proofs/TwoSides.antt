-- A node above another has more nodes below it. Assumes nothing.
use Rattle.std.proofs.Common.{◌≡◌, ℕ, ◌<◌, ◌≤◌, Bool, true, false, eqb, refl, subst, arith}
use Rattle.rows.proofs.Tests.{clash, not_so}
use Rattle.rows.proofs.Counting.{sum_less}
use Rattle.tree.specs.Tree.{Tree, under, inside}
use Rattle.tree.proofs.Ways.{Home, under_self, under_trans}
use Rattle.tree.proofs.Meeting.{under_both}
use Rattle.tree.proofs.Climbing.{up_above, below-not}
use Rattle.survey.proofs.Inside.{inside_in, inside-out}
use Rattle.survey.specs.Known.{count}

module _ (t : Tree) (all : (u : ℕ) → u < t.size → Home t u) where
  -- T(x) has more nodes than T(y) for y below x
  pub count-more : (x y : ℕ) → x < t.size → y < t.size → under t x y ≡ true → (x ≡ y → ⊥) → count t y < count t x
  unfolding count
  count-more x y lx ly e n =
      sum_less (inside t y (λ u. 1)) (inside t x (λ u. 1)) t.size x lx
      (rw (inside-out t y (λ u. 1) x out, inside_in t x (λ u. 1) x (under_self t x (all x lx))) (omega arith))
      (λ u l. each u l (under t y u) refl)
    where
      out : under t y x ≡ false
      out = not_so (under t y x) (λ p. n (under_both t x y (all x lx) (all y ly) e p))

      each : (u : ℕ) → u < t.size → (b : Bool) → under t y u ≡ b → inside t y (λ u. 1) u ≤ inside t x (λ u. 1) u
      each u l true p = rw (inside_in t y (λ u. 1) u p, inside_in t x (λ u. 1) u (under_trans t y x u (all u l) p e)) (omega arith)
      each u l false p = rw (inside-out t y (λ u. 1) u p) (omega arith)

  -- and the parent's more than its own
  pub count_rises : (x : ℕ) → x < t.size → t.up x < t.size → eqb x t.root ≡ false → count t x < count t (t.up x)
  count_rises x lx lp r =
      count-more (t.up x) x lp lx (up_above t x (all x lx) x (under_self t x (all x lx)) r)
      (λ q. clash (under_self t x (all x lx)) (subst (λ (v : ℕ). under t x v ≡ false) q (below-not t x (all x lx) r)))
