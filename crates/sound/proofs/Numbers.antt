-- Which numbers the check of a network can give: no number but 1 to 9 and 14, and 14 only where the tie rule is none; and what 8 names.
-- Assumes nothing.
use Rattle.std.specs.Prelude.{Err}
use mathlib.Core.Path.{◌≡◌, refl, sym, ◌∙◌}
use mathlib.Core.Bool.{false}
use mathlib.Core.List.{List, [], ◌∷◌, ◌++◌}
use Prim.Native.Nat.{ℕ, ◌<◌}
use Rattle.edition.specs.declared.Limits.{Limits}
use Rattle.edition.specs.declared.Search.{Search}
use Rattle.edition.specs.declared.Refusal.{Refusal}
use Rattle.edition.specs.declared.Why.TheVariants.{NodeCount, LinkCount, BadRoot, BadDepth, BadRule, BadEnds, BadMark, BadParent, NoRoute, NotShort}
use Rattle.edition.specs.Refusals.{number_of}
use Rattle.edition.specs.Limits.{memory_limits}
use Rattle.rows.specs.First.{refuse_at}
use Rattle.rows.specs.Lists.{has}
use Rattle.rows.proofs.Numbered.{Gives, taken_gives, if_gives, at_gives, none_gives, first_gives, gives_left, gives_right, passed, given_first}
use Rattle.rows.proofs.Refusing.{if_passes, at_taken, at_named, only_one}
use Rattle.network.specs.Network.{Net}
use Rattle.network.specs.Records.{bad_rule, size_verdict, bad_parent}
use Rattle.tree.specs.Tree.{tree_of, arrives}
use Rattle.sound.specs.Sound.{no_route, not_short, record_verdict, net_verdict}
use Rattle.sound.proofs.Closing.{lost_for_ever}

abbrev pub one_to_four : List ℕ
one_to_four = 1 ∷ 2 ∷ 3 ∷ 4 ∷ []

abbrev pub five_to_nine : List ℕ
five_to_nine = 5 ∷ 6 ∷ 7 ∷ 8 ∷ 9 ∷ []

abbrev pub one_to_nine : List ℕ
one_to_nine = one_to_four ++ five_to_nine

-- in the order of the checks
abbrev pub of_sizes : List ℕ
of_sizes = one_to_four ++ 14 ∷ []

abbrev pub of_network : List ℕ
of_network = of_sizes ++ five_to_nine

module _ (most : Limits) (n m : ℕ) (search : Search) where
  pub sizes_give : Gives of_sizes (size_verdict most n m search)
  unfolding size_verdict number_of has
  sizes_give =
      first_gives of_sizes _ _ (if_gives of_sizes _ NodeCount 0 refl)
      (first_gives of_sizes _ _ (if_gives of_sizes _ LinkCount 0 refl)
      (first_gives of_sizes _ _ (if_gives of_sizes _ BadRoot 0 refl)
      (first_gives of_sizes _ _ (if_gives of_sizes _ BadDepth 0 refl)
      (first_gives of_sizes _ _ (if_gives of_sizes _ BadRule 0 refl) (none_gives of_sizes)))))

  -- where the tie rule is one, no 14
  pub ruled_give : bad_rule search.rule ≡ false → Gives one_to_four (size_verdict most n m search)
  unfolding size_verdict number_of has
  ruled_give fine =
      first_gives one_to_four _ _ (if_gives one_to_four _ NodeCount 0 refl)
      (first_gives one_to_four _ _ (if_gives one_to_four _ LinkCount 0 refl)
      (first_gives one_to_four _ _ (if_gives one_to_four _ BadRoot 0 refl)
      (first_gives one_to_four _ _ (if_gives one_to_four _ BadDepth 0 refl)
      (first_gives one_to_four _ _ (taken_gives one_to_four _ (if_passes _ BadRule 0 fine)) (none_gives one_to_four)))))

pub records_give : (g : Net) → Gives five_to_nine (record_verdict g)
unfolding record_verdict number_of has
records_give g =
    first_gives five_to_nine _ _ (at_gives five_to_nine _ g.links BadEnds refl)
    (first_gives five_to_nine _ _ (at_gives five_to_nine _ g.links BadMark refl)
    (first_gives five_to_nine _ _ (at_gives five_to_nine _ g.nodes BadParent refl)
    (first_gives five_to_nine _ _ (at_gives five_to_nine _ g.nodes NoRoute refl)
    (first_gives five_to_nine _ _ (at_gives five_to_nine _ g.links NotShort refl) (none_gives five_to_nine)))))

-- the check of a network gives one of 1 to 9 or 14
pub net_gives : (g : Net) → Gives of_network (net_verdict g)
unfolding net_verdict
net_gives g =
    first_gives of_network _ _ (gives_left of_sizes five_to_nine _ (sizes_give memory_limits g.nodes g.links g.search))
    (first_gives of_network _ _ (gives_right five_to_nine of_sizes _ (records_give g)) (none_gives of_network))

-- and one of 1 to 9 where the tie rule is one
pub ruled_net_gives : (g : Net) → bad_rule g.search.rule ≡ false → Gives one_to_nine (net_verdict g)
unfolding net_verdict
ruled_net_gives g fine =
    first_gives one_to_nine _ _ (gives_left one_to_four five_to_nine _ (ruled_give memory_limits g.nodes g.links g.search fine))
    (first_gives one_to_nine _ _ (gives_right five_to_nine one_to_four _ (records_give g)) (none_gives one_to_nine))

-- a network that is refused by 8 names a node that does not come to the root within any number of nodes
pub refused-lost :
    (g : Net) (r : Refusal)
    → net_verdict g ≡ Err r → number_of r.why ≡ 8
    → (r.place < g.nodes) × ((k : ℕ) → arrives (tree_of g) k r.place ≡ false)
unfolding net_verdict record_verdict number_of has
refused-lost g r h eight =
    let v1 = passed of_sizes _ _ r (sizes_give memory_limits g.nodes g.links g.search) (rw eight) h in
    let v5 = passed (5 ∷ []) _ _ r (at_gives (5 ∷ []) _ g.links BadEnds refl) (rw eight) (sym (only_one _) ∙ v1.1) in
    let v6 = passed (6 ∷ []) _ _ r (at_gives (6 ∷ []) _ g.links BadMark refl) (rw eight) v5.1 in
    let v7 = passed (7 ∷ []) _ _ r (at_gives (7 ∷ []) _ g.nodes BadParent refl) (rw eight) v6.1 in
    let last : refuse_at (no_route g) g.nodes NoRoute ≡ Err r =
    given_first (9 ∷ []) _ _ r (first_gives (9 ∷ []) _ _ (at_gives (9 ∷ []) (not_short g) g.links NotShort refl) (none_gives (9 ∷ []))) (rw eight) v7.1 in
    let named = at_named (no_route g) g.nodes NoRoute r last in (
      named.0,
      lost_for_ever g (at_taken _ g.links BadEnds v5.0) (at_taken (bad_parent g) g.nodes BadParent v7.0) r.place named.0 named.1,
    )
