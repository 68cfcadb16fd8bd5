-- Refusals 8 and 9 by a walk over the nodes and its row of distances are those by the definitions. Assumes nothing.
use Rattle.std.specs.Prelude.{Err, Option}
use mathlib.Core.Path.{◌≡◌, refl, sym, ap, ◌∙◌}
use mathlib.Core.List.{List}
use Prim.Native.Nat.{ℕ, ◌<◌}
use native.Mathlib.Omega.{arith}
use lib.ListN.{length}
use Rattle.edition.specs.Refusals.{Verdict, taken, if_taken}
use Rattle.edition.specs.declared.Refusal.{Refusal}
use Rattle.edition.specs.declared.Search.{Search}
use Rattle.edition.specs.declared.Why.TheVariants.{NoRoute, NotShort}
use Rattle.edition.specs.Limits.{node_limit}
use Rattle.rows.specs.Count.{row_with}
use Rattle.rows.specs.First.{first_to, refused_at, refuse_at}
use Rattle.rows.proofs.Best.{first_cong}
use Rattle.rows.proofs.Filling.{filled_at}
use Rattle.rows.proofs.Refusing.{head_refuses, head_passes, only_one}
use Rattle.network.specs.Network.{Net, links_in, link_in, net_of}
use Rattle.tree.specs.Tree.{tree_of, dist}
use Rattle.tree.proofs.Answering.{few-nodes}
use Rattle.survey.specs.Survey.{routeless, closed_verdict, survey_verdict, survey_row}
use Rattle.survey.proofs.Surveyed.{closed_passes, survey_is}
use Rattle.sound.specs.Sound.{no_route, short, not_short}
use Rattle.sound.specs.Work.{breaks_by, Passed, tree_verdict}
use Rattle.sound.proofs.Closing.{parent-node}
use Rattle.sound.proofs.Plain.{passed_ends}

module _ (links parents : List ℕ) (search : Search) where
  abbrev g : Net
  g = net_of links parents search

  module _ (passed : Passed g) (row : List ℕ) (room : length row ≡ node_limit) where
    ends_in : (e : ℕ) → e < links_in links → ((link_in links e).first < length parents) × ((link_in links e).second < length parents)
    unfolding net_of
    ends_in e l = passed_ends g passed e l

    breaks-is :
        (e : ℕ) → e < links_in links
        → breaks_by (row_with (dist (tree_of g)) (length parents) row) (link_in links e) ≡ not_short g e
    unfolding breaks_by not_short short net_of
    breaks-is e l =
        rw (
          filled_at (dist (tree_of g)) (length parents) row (link_in links e).first (ends_in e l).0,
          filled_at (dist (tree_of g)) (length parents) row (link_in links e).second (ends_in e l).1,
        )

    -- a walk over the nodes refuses for 8 alone
    walk_taken : closed_verdict g (length row) ≡ taken
    unfolding net_of
    walk_taken =
        closed_passes g (length row) passed.nodes-ok (omega (arith, few-nodes (length parents) passed.nodes-ok)) passed.root_ok
        (parent-node g passed.ends_ok passed.parents-ok)

    module _ (v : Verdict) (after : List ℕ) (q : (v ≡ survey_verdict g row) × (after ≡ survey_row g row)) where
      walked_is : v ≡ refuse_at (no_route g) g.nodes NoRoute
      unfolding refuse_at no_route routeless
      walked_is =
          q.0 ∙ survey_is g row _ refl walk_taken ∙ ap (refused_at NoRoute) (first_cong (routeless (tree_of g)) (no_route g) g.nodes (λ u l. refl))

      pub tree_refused : (r : Refusal) → v ≡ Err r → v ≡ tree_verdict g
      unfolding tree_verdict
      tree_refused r t = t ∙ sym (head_refuses _ _ r (sym walked_is ∙ t))

      pub tree_walked :
          v ≡ taken
          → (f : Option ℕ) → f ≡ first_to (λ e. breaks_by after (link_in links e)) (links_in links)
          → (w : Verdict) → w ≡ refused_at NotShort f → w ≡ tree_verdict g
      unfolding tree_verdict survey_row refuse_at net_of
      tree_walked t f p w s =
          let filled : after ≡ row_with (dist (tree_of g)) (length parents) row =
          q.1
          ∙ ap (λ (x : Verdict). if_taken x (row_with (dist (tree_of g)) (length parents) row) row) (sym q.0 ∙ t) in
          let same =
          p
          ∙ ap (λ (r : List ℕ). first_to (λ e. breaks_by r (link_in links e)) (links_in links)) filled
          ∙ first_cong _ _ (links_in links) breaks-is in
          s ∙ ap (refused_at NotShort) same ∙ sym (head_passes _ _ (sym walked_is ∙ t) ∙ only_one _)
