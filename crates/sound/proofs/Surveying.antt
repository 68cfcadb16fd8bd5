-- The check that leaves a survey says 1 to 9 as the definitions do, and the row that it leaves is the survey of the network.
-- Assumes nothing.
use Rattle.std.specs.Prelude.{Err, Option}
use mathlib.Core.Path.{◌≡◌, refl, sym, ap, ◌∙◌}
use mathlib.Core.List.{List, [], ◌∷◌}
use Prim.Native.Nat.{ℕ, ◌<◌, ◌≤◌}
use native.Mathlib.Omega.{arith}
use lib.Dec.{ltb}
use lib.ListN.{length, get_or}
use borrow.Author.Tests.{le-ltb, ltb-false}
use Rattle.edition.specs.Refusals.{Verdict, taken, if_taken}
use Rattle.edition.specs.declared.Refusal.{Refusal}
use Rattle.edition.specs.declared.Search.{Search}
use Rattle.edition.specs.declared.Why.TheVariants.{NoRoute, NotShort, NoRoom}
use Rattle.edition.specs.Limits.{node_limit, longest}
use Rattle.rows.specs.First.{first_to, refused_at, refuse_at, refuse_if, firstly}
use Rattle.rows.proofs.Best.{first_cong}
use Rattle.rows.proofs.Refusing.{head_refuses, head_passes, head_taken, rest-taken, only_one, if_taken_lem, if_passes}
use Rattle.network.specs.Network.{Net, links_in, link_in, net_of}
use Rattle.tree.specs.Tree.{tree_of, dist}
use Rattle.tree.proofs.Answering.{few-nodes}
use Rattle.tree.proofs.InRows.{few}
use Rattle.survey.specs.Known.{known}
use Rattle.survey.specs.Row.{nodes_in, known_at}
use Rattle.survey.specs.Survey.{routeless, closed_verdict, surveyed_verdict, surveyed_row}
use Rattle.survey.proofs.Surveyed.{closed_passes}
use Rattle.survey.proofs.Records.{laid_at, laid-count}
use Rattle.sound.specs.Sound.{no_route, short, not_short, net_verdict}
use Rattle.sound.specs.Surveyed.{plain_verdict, narrow, sound_verdict, survey_of, sound_row, Surveyed}
use Rattle.sound.specs.Work.{breaks_in, Ended, Passed, tree_verdict, tree_row}
use Rattle.sound.proofs.Closing.{parent-node}
use Rattle.sound.proofs.Plain.{net_parts, passed_ends}

-- what the survey says of a node
module _ (g : Net) (row : List ℕ) where
  pub survey_at : (x : ℕ) → x < g.nodes → known_at (survey_of g row) x ≡ known (tree_of g) x
  unfolding survey_of
  survey_at x l = laid_at (known (tree_of g)) g.nodes row x l

  pub survey_room : g.nodes ≤ nodes_in (survey_of g row)
  unfolding survey_of
  survey_room = laid-count (known (tree_of g)) g.nodes row

  near_at : (x : ℕ) → x < g.nodes → (known_at (survey_of g row) x).near ≡ dist (tree_of g) x
  unfolding known
  near_at x l = ap (λ k. k.near) (survey_at x l)

module _ (links parents : List ℕ) (search : Search) where
  abbrev g : Net
  g = net_of links parents search

  module _ (passed : Passed g) (row : List ℕ) (room : node_limit ≤ nodes_in row) where
    ends_in : (e : ℕ) → e < links_in links → ((link_in links e).first < length parents) × ((link_in links e).second < length parents)
    unfolding net_of
    ends_in e l = passed_ends g passed e l

    breaks-is : (e : ℕ) → e < links_in links → breaks_in (survey_of g row) (link_in links e) ≡ not_short g e
    unfolding breaks_in not_short short net_of
    breaks-is e l = rw (near_at g row (link_in links e).first (ends_in e l).0, near_at g row (link_in links e).second (ends_in e l).1)

    -- a walk over the nodes refuses for 8 alone
    walk_taken : closed_verdict g (nodes_in row) ≡ taken
    unfolding net_of
    walk_taken =
        closed_passes g (nodes_in row) passed.nodes-ok (omega (arith, few-nodes (length parents) passed.nodes-ok, room)) passed.root_ok
        (parent-node g passed.ends_ok passed.parents-ok)

    verdict_is : surveyed_verdict g row ≡ refuse_at (no_route g) g.nodes NoRoute
    unfolding surveyed_verdict refuse_at no_route routeless
    verdict_is =
        head_passes (closed_verdict g (nodes_in row)) _ walk_taken
        ∙ only_one _
        ∙ ap (refused_at NoRoute) (first_cong (routeless (tree_of g)) (no_route g) g.nodes (λ u l. refl))

    row_is : surveyed_row g row ≡ tree_row g row
    unfolding surveyed_row tree_row survey_of
    row_is = ap (λ (v : Verdict). if_taken v (survey_of g row) row) verdict_is

    module _ (v : Verdict) (after : List ℕ) (q : (v ≡ surveyed_verdict g row) × (after ≡ surveyed_row g row)) where
      pub walk_refused : (r : Refusal) → v ≡ Err r → (v ≡ tree_verdict g) × (after ≡ tree_row g row)
      unfolding tree_verdict
      walk_refused r t = (t ∙ sym (head_refuses _ _ r (sym verdict_is ∙ sym q.0 ∙ t)), q.1 ∙ row_is)

      module _ (t : v ≡ taken) where
        taken_is : refuse_at (no_route g) g.nodes NoRoute ≡ taken
        taken_is = sym verdict_is ∙ sym q.0 ∙ t

        filled : after ≡ survey_of g row
        unfolding tree_row
        filled = q.1 ∙ row_is ∙ ap (λ (w : Verdict). if_taken w (survey_of g row) row) taken_is

        pub walk_ended : Ended links (nodes_in after)
        unfolding net_of
        walk_ended =
            record {
              first-low = λ e l. rw filled (omega (arith, (ends_in e l).0, survey_room g row));
              second_low = λ e l. rw filled (omega (arith, (ends_in e l).1, survey_room g row));
            }

        pub walk_done :
            (f : Option ℕ)
            → f ≡ first_to (λ e. breaks_in after (link_in links e)) (links_in links)
            → (w : Verdict) → w ≡ refused_at NotShort f → (w ≡ tree_verdict g) × (after ≡ tree_row g row)
        unfolding tree_verdict refuse_at net_of
        walk_done f p w s =
            let same =
            p
            ∙ ap (λ (r : List ℕ). first_to (λ e. breaks_in r (link_in links e)) (links_in links)) filled
            ∙ first_cong _ _ (links_in links) breaks-is in
            (s ∙ ap (refused_at NotShort) same ∙ sym (head_passes _ _ taken_is ∙ only_one _), q.1 ∙ row_is)

-- 10 of the row
pub narrow-is : (row : List ℕ) (k : ℕ) → k ≡ nodes_in row → (v : Verdict) → v ≡ refuse_if (ltb k node_limit) NoRoom 0 → v ≡ narrow row
unfolding narrow
narrow-is row k q v e = e ∙ ap (λ (j : ℕ). refuse_if (ltb j node_limit) NoRoom 0) q

pub narrow-room : (row : List ℕ) → narrow row ≡ taken → node_limit ≤ nodes_in row
unfolding narrow
narrow-room row t = ltb-false (nodes_in row) node_limit (if_taken_lem _ NoRoom 0 t)

-- in the order of the whole check
module _ (g : Net) (row : List ℕ) where
  pub narrow-refused : (v : Verdict) → v ≡ narrow row → (r : Refusal) → v ≡ Err r → (v ≡ sound_verdict g row) × (row ≡ sound_row g row)
  unfolding sound_verdict sound_row
  narrow-refused v q r t =
      let is = sym q ∙ t in
      (t ∙ sym (head_refuses _ _ r is), sym (ap (λ (w : Verdict). if_taken w (survey_of g row) row) (head_refuses _ _ r is)))

  module _ (wide : narrow row ≡ taken) where
    pub plain_refused : (v : Verdict) → v ≡ plain_verdict g → (r : Refusal) → v ≡ Err r → (v ≡ sound_verdict g row) × (row ≡ sound_row g row)
    unfolding sound_verdict sound_row
    plain_refused v q r t =
        let is = sym q ∙ t in
        let net : net_verdict g ≡ Err r = sym (net_parts g) ∙ head_refuses _ _ r is in (
          t ∙ sym (head_passes _ _ wide ∙ only_one _ ∙ net),
          sym (ap (λ (w : Verdict). if_taken w (survey_of g row) row) (head_passes _ _ wide ∙ head_refuses _ _ r is)),
        )

    pub tree_surveyed :
        plain_verdict g ≡ taken → (w : Verdict) (after : List ℕ) → (w ≡ tree_verdict g) × (after ≡ tree_row g row)
        → (w ≡ sound_verdict g row) × (after ≡ sound_row g row)
    unfolding sound_verdict sound_row tree_row
    tree_surveyed t w after z = (
      z.0 ∙ sym (head_passes _ _ wide ∙ only_one _ ∙ sym (net_parts g) ∙ head_passes _ _ t ∙ only_one _),
      z.1 ∙ sym (ap (λ (w : Verdict). if_taken w (survey_of g row) row) (head_passes _ _ wide ∙ head_passes _ _ t ∙ only_one _)),
    )

-- what a caller with room for all nodes gets
pub wide_taken : (row : List ℕ) → node_limit ≤ nodes_in row → narrow row ≡ taken
unfolding narrow
wide_taken row h = if_passes (ltb (nodes_in row) node_limit) NoRoom 0 (le-ltb (nodes_in row) node_limit h)

pub verdict_net : (g : Net) (row : List ℕ) → node_limit ≤ nodes_in row → sound_verdict g row ≡ net_verdict g
unfolding sound_verdict
verdict_net g row h = head_passes _ _ (wide_taken row h) ∙ only_one _

module _ (links parents : List ℕ) (search : Search) (held : (i : ℕ) → get_or links i 0 ≤ longest) where
  -- where nothing is refused, the row is the survey
  pub surveyed :
      (row after : List ℕ)
      → node_limit ≤ nodes_in row → net_verdict (net_of links parents search) ≡ taken
      → after ≡ sound_row (net_of links parents search) row → Surveyed (net_of links parents search) after
  unfolding tree_verdict sound_row
  surveyed row after wide t q =
      let is = q ∙ filled in
      record {
        is_taken = t;
        few = few links parents search held;
        room = rw is (survey_room (net_of links parents search) row);
        each = λ x l. rw is (survey_at (net_of links parents search) row x l);
      }
    where
      parts : firstly (plain_verdict (net_of links parents search) ∷ tree_verdict (net_of links parents search) ∷ []) ≡ taken
      parts = net_parts (net_of links parents search) ∙ t

      routes : refuse_at (no_route (net_of links parents search)) (net_of links parents search).nodes NoRoute ≡ taken
      routes = head_taken _ _ (head_taken _ _ (rest-taken _ _ parts))

      filled : sound_row (net_of links parents search) row ≡ survey_of (net_of links parents search) row
      filled =
          ap (λ (w : Verdict). if_taken w (survey_of (net_of links parents search) row) row)
          (head_passes _ _ (wide_taken row wide) ∙ head_passes _ _ (head_taken _ _ parts) ∙ only_one _ ∙ routes)
