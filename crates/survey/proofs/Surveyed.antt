-- From the verdict before a walk and what the walk leaves to the definitions; and that nothing but 8 is refused where 1 to 7 refuse
-- nothing and there is room. Assumes nothing.
use mathlib.Core.Path.{◌≡◌, sym, ap, ◌∙◌}
use mathlib.Core.Bool.{false}
use mathlib.Core.List.{List}
use Prim.Native.Nat.{ℕ, ◌<◌, ◌≤◌}
use lib.ListN.{length}
use borrow.Author.Tests.{leb-false, lt-leb}
use Rattle.edition.specs.Refusals.{Verdict, taken, if_taken}
use Rattle.edition.specs.declared.Why.TheVariants.{BadRoot, BadParent, NoRoute}
use Rattle.edition.specs.Limits.{memory_limits}
use Rattle.rows.specs.Count.{row_with}
use Rattle.rows.specs.First.{refuse_at}
use Rattle.rows.proofs.Refusing.{head_taken, rest-taken, both_taken, none_left, head_passes, if_taken_lem, if_passes, at_taken, at_passes, only_one}
use Rattle.network.specs.Network.{Net}
use Rattle.network.specs.Records.{bad_nodes, bad_root}
use Rattle.tree.specs.Tree.{tree_of, dist}
use Rattle.tree.proofs.Answering.{room-taken, room_passes}
use Rattle.survey.specs.Survey.{strays, routeless, closed_verdict, survey_verdict, survey_row}
use Rattle.survey.specs.Work.{Closed}

module _ (g : Net) (room : ℕ) where
  -- what a walk may rely on
  pub closed-taken : closed_verdict g room ≡ taken → Closed (tree_of g) × (g.nodes ≤ room)
  unfolding closed_verdict tree_of strays bad_root
  closed-taken h1 =
      let h2 = rest-taken _ _ h1 in
      let h3 = rest-taken _ _ h2 in
      let sized = room-taken _ _ (head_taken _ _ h1) in (
        record {
          few = sized.0;
          root_in = leb-false g.nodes g.search.root (if_taken_lem _ BadRoot 0 (head_taken _ _ h2));
          up_in =
              λ u l. leb-false g.nodes ((tree_of g).up u)
              (at_taken (strays (tree_of g)) g.nodes BadParent (head_taken _ _ h3) u l);
        },
        sized.1,
      )

  pub closed_passes :
      bad_nodes memory_limits g.nodes ≡ false
      → g.nodes ≤ room → bad_root g.nodes g.search.root ≡ false
      → ((u : ℕ) → u < (tree_of g).size → (tree_of g).up u < (tree_of g).size) → closed_verdict g room ≡ taken
  unfolding closed_verdict tree_of strays
  closed_passes few wide root up_in =
      both_taken _ _ (room_passes _ _ few wide)
      (both_taken _ _ (if_passes _ BadRoot 0 root)
      (both_taken _ _ (at_passes (strays (tree_of g)) g.nodes BadParent (λ u l. lt-leb g.nodes ((tree_of g).up u) (up_in u l))) none_left))

module _ (g : Net) (row : List ℕ) (v : Verdict) (e : v ≡ closed_verdict g (length row)) where
  -- nothing but 8 is left
  pub survey_is : v ≡ taken → survey_verdict g row ≡ refuse_at (routeless (tree_of g)) g.nodes NoRoute
  unfolding survey_verdict
  survey_is q = head_passes (closed_verdict g (length row)) _ (sym e ∙ q) ∙ only_one _

  pub survey_walked :
      v ≡ taken
      → (w : Verdict) (after : List ℕ)
      → (w ≡ refuse_at (routeless (tree_of g)) g.nodes NoRoute)
      × (after ≡ if_taken w (row_with (dist (tree_of g)) g.nodes row) row)
      → (w ≡ survey_verdict g row) × (after ≡ survey_row g row)
  unfolding survey_row
  survey_walked q w after z =
      let same = z.0 ∙ sym (survey_is q) in
      (same, z.1 ∙ ap (λ (x : Verdict). if_taken x (row_with (dist (tree_of g)) g.nodes row) row) same)
