-- The loop that looks whether a link is some node's parent link. Assumes nothing.
use mathlib.Core.Path.{◌≡◌, sym, ◌∙◌}
use mathlib.Core.Bool.{true, false}
use mathlib.Core.List.{List}
use Prim.Native.Nat.{ℕ, ◌+◌, ◌<◌, ◌≤◌}
use native.Mathlib.Numerals.{add-one}
use native.Mathlib.Omega.{arith}
use lib.Dec.{eqb}
use lib.ListN.{length, get_or}
use borrow.Author.Tests.{eq-eqb, ne_eqb}
use Rattle.edition.specs.Limits.{no_link}
use Rattle.rows.proofs.Best.{none_some, one_some}
use Rattle.rows.proofs.Tests.{lastly}
use Rattle.network.specs.Network.{is_parent}

-- none of the nodes below u names e
pub record Unnamed (parents : List ℕ) (e u : ℕ) : Type 0 where
  pub low : u ≤ length parents
  pub none : (j : ℕ) → j < u → eqb (get_or parents j no_link) e ≡ false

module _ (parents : List ℕ) (e : ℕ) where
  pub unnamed_start : Unnamed parents e 0
  unnamed_start = record { low = omega arith; none = λ j l. absurd (omega arith) }

  module _ (u : ℕ) (s : Unnamed parents e u) where
    pub unnamed_more : u < length parents → (v : ℕ) → v ≡ get_or parents u no_link → (v ≡ e → ⊥) → Unnamed parents e (u + 1)
    unnamed_more l v q n =
        record {
          low = omega arith;
          none = rw add-one (lastly (λ j. eqb (get_or parents j no_link) e ≡ false) u s.none (ne_eqb (get_or parents u no_link) e (λ z. n (q ∙ z))));
        }

    pub named : u < length parents → (v : ℕ) → v ≡ get_or parents u no_link → v ≡ e → true ≡ is_parent (λ u. get_or parents u no_link) (length parents) e
    unfolding is_parent
    named l v q z = sym (one_some (λ u. eqb (get_or parents u no_link) e) (length parents) u l (eq-eqb (get_or parents u no_link) e (sym q ∙ z)))

    pub unnamed_end : length parents ≤ u → false ≡ is_parent (λ u. get_or parents u no_link) (length parents) e
    unfolding is_parent
    unnamed_end l = sym (none_some (λ u. eqb (get_or parents u no_link) e) (length parents) (λ j m. s.none j (omega arith)))
