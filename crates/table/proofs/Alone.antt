-- Where x alone is asked for, the nodes below x, and no others, have its rank. Assumes nothing.
use Rattle.std.specs.Prelude.{None, Some}
use Rattle.std.proofs.Common.{◌≡◌, ℕ, zero, suc, ◌*◌, ◌<◌, Bool, true, false, cond, eqb, List, [], ◌∷◌, length, get_or, set, replicate, sym, refl, ap, ◌∙◌}
use Rattle.std.proofs.Common.{arith, get_or-set_other, get_or-set_same, eq-eqb, ne_eqb, eqb-true}
use lib.ListN.{length-replicate}
use borrow.Author.Tests.{eqb-false}
use Rattle.edition.specs.Limits.{node_limit, no_node}
use Rattle.edition.specs.declared.Search.{Search}
use Rattle.rows.specs.Lists.{has}
use Rattle.network.specs.Network.{Net, net_of}
use Rattle.tree.specs.Tree.{Tree, tree_of, route, under}
use Rattle.tree.proofs.Ways.{under_self}
use Rattle.survey.specs.Known.{count}
use Rattle.sound.specs.Surveyed.{Surveyed}
use Rattle.table.specs.Table.{is_asked}
use Rattle.table.specs.Work.{anchor_in, anchor, rank_step, rank_of, rank_by, rank, Ranked, Telling}
use Rattle.table.proofs.Surveys.{size_is, in_tree, homes, small, count-few}
use Rattle.table.proofs.Ranks.{rank_high}

zeros : (n u : ℕ) → get_or {A = ℕ} (replicate n 0) u 0 ≡ 0
zeros zero u = refl
zeros (suc n) zero = refl
zeros (suc n) (suc u) = zeros n u

-- the row of n marks with that of x alone
module _ (n x : ℕ) (l : x < n) where
  only_asked : (u : ℕ) → is_asked (set (replicate n 0) x 1) u ≡ eqb u x
  unfolding is_asked
  only_asked u = go (eqb u x) refl
    where
      go : (b : Bool) → eqb u x ≡ b → is_asked (set (replicate n 0) x 1) u ≡ b
      go true q =
          rw (eqb-true u x q, get_or-set_same {A = ℕ} (replicate n 0) x 1 0 (omega (arith, l, length-replicate {A = ℕ} n 0)))
      go false q = rw (get_or-set_other {A = ℕ} (replicate n 0) x u 1 0 (eqb-false u x q), zeros n u)

module _ (asked : List ℕ) (x : ℕ) (only : (u : ℕ) → is_asked asked u ≡ eqb u x) where
  anchor-alone : (r : List ℕ) → anchor_in asked r ≡ cond (has x r) (Some x) None
  unfolding anchor_in has
  anchor-alone [] = refl
  anchor-alone (u ∷ r) = go (anchor-alone r) (eqb u x) refl
    where
      go :
          anchor_in asked r ≡ cond (has x r) (Some x) None
          → (b : Bool) → eqb u x ≡ b → anchor_in asked (u ∷ r) ≡ cond (has x (u ∷ r)) (Some x) None
      go ih true q = rw (only u, q) (ap Some (eqb-true u x q))
      go ih false q = rw (only u, q) ih

  -- the rank of x below it, that of no node elsewhere
  module _ (t : Tree) (u : ℕ) where
    rank_below : under t x u ≡ true → rank t asked u ≡ rank_of (count t x) x
    unfolding rank rank_by anchor under
    rank_below m = ap (rank_by t) (anchor-alone (route t u)) ∙ rw m

    rank-beside : under t x u ≡ false → rank t asked u ≡ no_node * rank_step
    unfolding rank rank_by anchor under
    rank-beside m = ap (rank_by t) (anchor-alone (route t u)) ∙ rw m

  rank_tells : {g : Net} {survey ranks : List ℕ} → Surveyed g survey → x < g.nodes → Ranked (tree_of g) asked ranks → Telling g x survey ranks
  rank_tells {g} {survey} {ranks} s l h =
      record { surveyed = s; low = l; room = omega (arith, h.room, size_is s); each = λ u m. go u m (under (tree_of g) x u) refl }
    where
      own : get_or ranks x 0 ≡ rank_of (count (tree_of g) x) x
      own = h.each x (in_tree s x l) ∙ rank_below (tree_of g) x (under_self (tree_of g) x (homes s x (in_tree s x l)))

      go : (u : ℕ) → u < g.nodes → (b : Bool) → under (tree_of g) x u ≡ b → eqb (get_or ranks u 0) (get_or ranks x 0) ≡ b
      go u m true q = eq-eqb _ _ (h.each u (in_tree s u m) ∙ rank_below (tree_of g) u q ∙ sym own)
      go u m false q =
          let high = rank_high {x = x} (omega (arith, l, size_is s, small s)) (count-few s x) in
          ne_eqb (get_or ranks u 0) (get_or ranks x 0)
          (λ z. omega (arith, z, own, h.each u (in_tree s u m) ∙ rank-beside (tree_of g) u q, high))

pub telling :
    (links parents : List ℕ) (search : Search) {x : ℕ} {survey ranks : List ℕ}
    → Surveyed (net_of links parents search) survey → x < length parents
    → Ranked (tree_of (net_of links parents search)) (set (replicate node_limit 0) x 1) ranks
    → Telling (net_of links parents search) x survey ranks
unfolding net_of
telling links parents search {x} s l h = rank_tells _ x (only_asked node_limit x (omega (arith, l, size_is s, small s))) s l h
