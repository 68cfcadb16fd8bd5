-- The climb to the first node that has a place: what it passes has none, and where it takes as many steps as there are nodes,
-- none of them was the root. Assumes nothing.
use Rattle.std.specs.Prelude.{Some, None}
use mathlib.Core.Path.{◌≡◌, refl, sym, ap, ◌∙◌}
use mathlib.Core.List.{List}
use Prim.Native.Nat.{ℕ, ◌+◌, ◌<◌, ◌≤◌}
use native.Mathlib.Numerals.{add-one}
use native.Mathlib.Omega.{arith}
use lib.ListN.{length, get_or, set, length-set}
use lib.Seq.{get_or-set_same, get_or-set_other}
use borrow.Author.Tests.{ne_eqb}
use Rattle.rows.proofs.Tests.{lastly}
use Rattle.tree.specs.Tree.{Tree, has_route}
use Rattle.tree.proofs.Climbing.{Finding, finding_start, finding_more, finding_none}
use Rattle.survey.specs.Work.{Closed, up_by, Climbed}

pub record Climbing (t : Tree) (seats : List ℕ) (u k v : ℕ) (before path : List ℕ) : Type 0 where
  pub low : k ≤ t.size
  pub node : v < t.size
  pub at : v ≡ up_by t k u
  on : (j : ℕ) → j < k → get_or path j 0 ≡ up_by t j u
  free : (j : ℕ) → j < k → get_or seats (up_by t j u) 0 ≡ 0
  find : Finding t t.size u k v
  pub same : length path ≡ length before

module _ (t : Tree) (seats : List ℕ) (u : ℕ) (before : List ℕ) where
  pub climbing_start : u < t.size → Climbing t seats u 0 u before before
  unfolding up_by
  climbing_start l =
      record {
        low = omega arith;
        node = l;
        at = refl;
        on = λ j m. absurd (omega arith);
        free = λ j m. absurd (omega arith);
        find = finding_start t t.size u;
        same = refl;
      }

  module _ (k v : ℕ) (path : List ℕ) (s : Climbing t seats u k v before path) where
    pub climbing_more :
        Closed t
        → k < t.size → t.size ≤ length before → 0 < get_or seats t.root 0 → get_or seats v 0 ≡ 0 → (w : ℕ)
        → w ≡ t.up v → Climbing t seats u (k + 1) w before (set path k v)
    unfolding up_by
    climbing_more closed l room rooted none w q =
        rw (add-one k)
        (record {
          low = l;
          node = rw q (closed.up_in v s.node);
          at = q ∙ ap t.up s.at;
          on = lastly (λ j. get_or (set path k v) j 0 ≡ up_by t j u) k
              (λ j m. get_or-set_other path k j v 0 (λ e. absurd (omega arith)) ∙ s.on j m)
              (get_or-set_same path k v 0 (omega (arith, s.same)) ∙ s.at);
          free = lastly (λ j. get_or seats (up_by t j u) 0 ≡ 0) k s.free (ap (λ (y : ℕ). get_or seats y 0) (sym s.at) ∙ none);
          find =
              rw (← add-one k)
              (finding_more t t.size u k v s.find l (ne_eqb v t.root (λ e. absurd (omega (arith, ap (λ (y : ℕ). get_or seats y 0) e)))) w q);
          same = length-set path k v ∙ s.same;
        })

    pub climbing_found : k < t.size → (get_or seats v 0 ≡ 0 → ⊥) → Climbed t seats u (Some k) path
    climbing_found l some =
        (l, record { on = s.on; free = s.free; end = omega (arith, some, ap (λ (y : ℕ). get_or seats y 0) s.at) })

    pub climbing_none : t.size ≤ k → Climbed t seats u None path
    unfolding has_route
    climbing_none l = sym (finding_none t t.size u k v s.find l)
