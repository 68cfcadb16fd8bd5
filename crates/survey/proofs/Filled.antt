-- What the walks over records rely on, in rows of 16-bit numbers; what they leave; and from the verdict before them and the row
-- that they leave to the definitions. Assumes nothing.
use mathlib.Core.Path.{◌≡◌, refl, sym, ap, ◌∙◌}
use mathlib.Core.List.{List, ◌++◌}
use Prim.Native.Nat.{ℕ, ◌≤◌}
use lib.ListN.{length, get_or}
use borrow.Author.Tests.{eq-eqb}
use Rattle.edition.specs.declared.Search.{Search}
use Rattle.edition.specs.Refusals.{Verdict, taken, if_taken}
use Rattle.edition.specs.declared.Why.TheVariants.{NoRoute}
use Rattle.edition.specs.Limits.{longest}
use Rattle.rows.specs.Count.{rows_to}
use Rattle.rows.specs.First.{refuse_at}
use Rattle.rows.proofs.Refusing.{head_passes, only_one}
use Rattle.network.specs.Network.{Net, net_of}
use Rattle.tree.specs.Tree.{Tree, tree_of}
use Rattle.tree.proofs.InRows.{tree_in, few}
use Rattle.survey.specs.Known.{known}
use Rattle.survey.specs.Row.{nodes_in, known_row, past_known}
use Rattle.survey.specs.Survey.{routeless, closed_verdict, surveyed_verdict, surveyed_row}
use Rattle.survey.specs.Work.{Order, Basis, Held, Told}
use Rattle.survey.proofs.Holding.{held_as, held_end}

pub basis_in :
    (links parents : List ℕ) (search : Search) (order : List ℕ)
    → ((i : ℕ) → get_or links i 0 ≤ longest) → Order (tree_in links parents search) order
    → length order ≡ length parents → Basis (tree_in links parents search) order
unfolding tree_of net_of
basis_in links parents search order held o e =
    let top = eq-eqb search.root search.root refl in
    record {
      nodes = e;
      ordered = o;
      top = rw top;
      flat = rw top;
      short = few links parents search held;
    }

pub told_row :
    (t : Tree) (n : ℕ) (before row : List ℕ)
    → Held n before (Told t) row → row ≡ rows_to (λ x. known_row (known t x)) n ++ past_known n before
told_row t n before row s = held_end n before (known t) row (held_as n before (Told t) row s (λ u k. k ≡ known t u) (λ u l z. z.is))

module _ (g : Net) (row : List ℕ) (v : Verdict) (e : v ≡ closed_verdict g (nodes_in row)) where
  abbrev new : List ℕ
  new = rows_to (λ x. known_row (known (tree_of g) x)) g.nodes ++ past_known g.nodes row

  -- nothing but 8 is left
  surveyed-is : v ≡ taken → surveyed_verdict g row ≡ refuse_at (routeless (tree_of g)) g.nodes NoRoute
  unfolding surveyed_verdict
  surveyed-is q = head_passes (closed_verdict g (nodes_in row)) _ (sym e ∙ q) ∙ only_one _

  pub surveyed_walked :
      v ≡ taken
      → (w : Verdict) (after : List ℕ)
      → (w ≡ refuse_at (routeless (tree_of g)) g.nodes NoRoute)
      × (after ≡ if_taken w (rows_to (λ x. known_row (known (tree_of g) x)) g.nodes ++ past_known g.nodes row) row)
      → (w ≡ surveyed_verdict g row) × (after ≡ surveyed_row g row)
  unfolding surveyed_row
  surveyed_walked q w after z =
      let same = z.0 ∙ sym (surveyed-is q) in
      (same, z.1 ∙ ap (λ (x : Verdict). if_taken x new row) same)
