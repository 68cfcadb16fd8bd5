-- The next node of a walk down, in the words of the code. Assumes nothing.
use mathlib.Core.Path.{◌≡◌, sym, ap, ◌∙◌}
use mathlib.Core.List.{List}
use Prim.Native.Nat.{ℕ, ◌+◌, ◌*◌, ◌≤◌}
use native.Mathlib.Nat.{mul-le-mul_right}
use native.Mathlib.Omega.{arith}
use lib.ListN.{length, get_or}
use Rattle.edition.specs.declared.Search.{Search}
use Rattle.edition.specs.Limits.{node_limit, longest}
use Rattle.tree.specs.Tree.{dist}
use Rattle.tree.proofs.Ways.{dist-step, dist-root}
use Rattle.tree.proofs.Answering.{dist-small}
use Rattle.tree.proofs.Made.{rise-flat}
use Rattle.tree.proofs.InRows.{tree_in, size_in, root_in, at_root, off_root, few}
use Rattle.survey.specs.Work.{Next}

module _ (links parents : List ℕ) (search : Search) (row : List ℕ) (v : ℕ) where
  module _ (f : ℕ → ℕ) (s : Next (tree_in links parents search) f row v) where
    -- the parent's number, at the parent
    pub above-is : (v ≡ search.root → ⊥) → (p : ℕ) → p ≡ (tree_in links parents search).up v → get_or row p 0 ≡ f p
    above-is e p q = rw q (s.up_is (λ z. e (z ∙ root_in links parents search)))

  module _ (s : Next (tree_in links parents search) (dist (tree_in links parents search)) row v) where
    pub next_dist-root : v ≡ search.root → 0 ≡ dist (tree_in links parents search) v
    next_dist-root e =
        let top = at_root links parents search v e in
        sym (dist-root (tree_in links parents search) v s.home top (rise-flat _ v top))

    module _ (e : v ≡ search.root → ⊥) (p : ℕ) (q : p ≡ (tree_in links parents search).up v) where
      pub next_dist-small : ((i : ℕ) → get_or links i 0 ≤ longest) → length parents ≤ node_limit → get_or row p 0 ≤ node_limit * longest
      next_dist-small held l =
          let t = tree_in links parents search in
          omega (
            arith,
            above-is (dist t) s e p q,
            ap (dist t) q,
            dist-small t longest (few links parents search held) (t.up v),
            ap (λ (n : ℕ). n * longest) (size_in links parents search),
            mul-le-mul_right longest l,
          )

      pub next_dist : (w : ℕ) → w ≡ (tree_in links parents search).rise v → get_or row p 0 + w ≡ dist (tree_in links parents search) v
      next_dist w r =
          let t = tree_in links parents search in
          omega (arith, above-is (dist t) s e p q, ap (dist t) q, dist-step t v s.home (off_root links parents search v e))
