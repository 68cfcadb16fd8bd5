-- The recursion up the tree: what one call writes and gives, from what the next one does. Assumes nothing.
use Rattle.std.proofs.Common.{◌≡◌, ℕ, zero, suc, ◌+◌, ◌-◌, ◌≤◌, List, ◌∷◌, get_or, set, sym, refl, ap, ◌∙◌, ap₂, add-one, arith}
use lib.Seq.{sets}
use Rattle.edition.specs.declared.Search.{Search}
use Rattle.edition.specs.Limits.{longest}
use Rattle.rows.specs.Lists.{total}
use Rattle.tree.specs.Tree.{climb}
use Rattle.tree.specs.Work.{Routed}
use Rattle.tree.proofs.Made.{rise-flat}
use Rattle.tree.proofs.Climbing.{climb-none, climb-root, climb-up}
use Rattle.tree.proofs.InRows.{tree_in, at_root, off_root, few}

module _ (links parents : List ℕ) (search : Search) (at u : ℕ) (row : List ℕ) where
  -- nothing is left to go
  pub routed_none : (left : ℕ) → left ≡ 0 → Routed (tree_in links parents search) left u at row 0 row
  unfolding total
  routed_none left z =
      let cut = ap (λ (k : ℕ). climb (tree_in links parents search) k u) z ∙ climb-none (tree_in links parents search) u in
      record { length-is = sym (ap (total (tree_in links parents search).rise) cut); small = omega arith; row_is = sym (ap (sets row at) cut) }

  -- the root is written
  pub routed_root : (left : ℕ) → (left ≡ 0 → ⊥) → u ≡ search.root → Routed (tree_in links parents search) left u at row 0 (set row at u)
  unfolding total
  routed_root zero n e = absurd (n refl)
  routed_root (suc k) n e =
      let cut = climb-root (tree_in links parents search) k u (at_root links parents search u e) in
      record {
        length-is = omega (arith, ap (total (tree_in links parents search).rise) cut, rise-flat _ u (at_root links parents search u e));
        small = omega arith;
        row_is = sym (ap (sets row at) cut);
      }

  -- a node is written, and the route of its parent after it
  pub routed_more :
      (held : (i : ℕ) → get_or links i 0 ≤ longest) (left : ℕ)
      → (left ≡ 0 → ⊥) → (u ≡ search.root → ⊥) → (w p r : ℕ) → w ≡ (tree_in links parents search).rise u
      → p ≡ (tree_in links parents search).up u → (after : List ℕ)
      → Routed (tree_in links parents search) (left - 1) p (at + 1) (set row at u) r after
      → Routed (tree_in links parents search) left u at row (w + r) after
  unfolding total
  routed_more held zero n e w p r q s after next = absurd (n refl)
  routed_more held (suc k) n e w p r q s after next =
      let t = tree_in links parents search in
      let less : suc k - 1 ≡ k = omega arith in
      let cut : climb t (suc k) u ≡ u ∷ climb t (suc k - 1) p =
      climb-up t k u (off_root links parents search u e) ∙ ap₂ (λ (j v : ℕ). u ∷ climb t j v) (sym less) (sym s) in
      record {
        length-is = omega (arith, next.length-is, ap (total t.rise) cut);
        small = omega (arith, next.small, few links parents search held u);
        row_is =
            next.row_is ∙ ap (λ (i : ℕ). sets (set row at u) i (climb t (suc k - 1) p)) (add-one at) ∙
            sym (ap (sets row at) cut);
      }
