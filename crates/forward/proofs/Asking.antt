-- A call in the words of its code: what each of its steps may ask for, and what it answers and leaves in the rows. Assumes nothing.
use Rattle.std.specs.Prelude.{Result, Ok, Err}
use mathlib.Core.Path.{◌≡◌, sym, ◌∙◌}
use mathlib.Core.Bool.{Bool, true, false}
use mathlib.Core.List.{List}
use Prim.Native.Nat.{ℕ}
use lib.ListN.{length, replicate}
use Rattle.edition.specs.declared.Refusal.{Refusal}
use Rattle.edition.specs.declared.Search.{Search}
use Rattle.edition.specs.Refusals.{Verdict, taken}
use Rattle.network.specs.Network.{Net, net_of}
use Rattle.tree.specs.Tree.{tree_of, route, under}
use Rattle.survey.specs.Row.{known_room}
use Rattle.survey.proofs.Records.{full_room}
use Rattle.sound.specs.Sound.{net_verdict}
use Rattle.sound.specs.Surveyed.{Surveyed, sound_verdict}
use Rattle.sound.proofs.Surveying.{verdict_net}
use Rattle.forward.specs.declared.Ask.{Ask}
use Rattle.forward.specs.declared.Way.{Way}
use Rattle.forward.specs.declared.Applies.{Applies}
use Rattle.forward.specs.declared.Applies.TheVariants.{Ordinary}
use Rattle.forward.specs.Forward.{cut_off}
use Rattle.forward.specs.Answers.{ask_verdict, row_of, applies, ordinary_row, detour_row}
use Rattle.forward.specs.Work.{Node, route_way, Cut, cut_applies, cut_row}
use Rattle.forward.proofs.Filling.{Fits, ask_fits, Done, net_done, ask_done, ordinary_done, cut_done}

module _ (links parents : List ℕ) (search : Search) (a : Ask) (o d : List ℕ) where
  abbrev g : Net
  g = net_of links parents search

  -- what the contract says
  abbrev Told : Result Applies Refusal → List ℕ → List ℕ → Type 0
  Told it o' d' = (it ≡ applies g a o d) × (o' ≡ ordinary_row g a o d) × (d' ≡ detour_row g a o d)

  told : {it : Result Applies Refusal} {o' d' : List ℕ} → Done g a o d it o' d' → Told it o' d'
  told z = (z.said, z.one, z.two)

  -- by a survey in the call's own row
  module _ {v : Verdict} (q : v ≡ sound_verdict g (replicate known_room 0)) where
    is_net : v ≡ net_verdict g
    is_net = q ∙ verdict_net g (replicate known_room 0) full_room

    pub told_net : {r : Refusal} → v ≡ Err r → Told (Err r) o d
    told_net {r} e = told (net_done g a o d v is_net r e)

    module _ (e : v ≡ taken) where
      pub is_taken : net_verdict g ≡ taken
      is_taken = sym is_net ∙ e

      module _ {w : Verdict} (s : w ≡ ask_verdict (length parents) search.root a (length o) (length d)) where
        pub told_ask : {r : Refusal} → w ≡ Err r → Told (Err r) o d
        unfolding net_of
        told_ask {r} f = told (ask_done g a o d is_taken w s r f)

        module _ (f : w ≡ taken) where
          ok : ask_verdict (length parents) search.root a (length o) (length d) ≡ taken
          ok = sym s ∙ f

          pub fits : Fits (length parents) search.root a (length o) (length d)
          fits = ask_fits _ _ a _ _ ok

          pub start-node : Node g a.start
          unfolding net_of
          start-node = record { is_taken = is_taken; low = fits.start-low }

          module _ {b : Bool} (u : b ≡ under (tree_of g) a.failed a.start) where
            pub cut_asked : b ≡ true → {survey : List ℕ} → Surveyed g survey → Cut g survey a
            unfolding cut_off net_of
            cut_asked i z =
                record {
                  surveyed = z;
                  start-low = fits.start-low;
                  failed_low = fits.failed_low;
                  below = fits.below;
                  cut = sym u ∙ i;
                }

            pub told-cut : b ≡ true → {it : Result Applies Refusal} {d' : List ℕ} → it ≡ cut_applies g a → d' ≡ cut_row g a d → Told it o d'
            unfolding cut_off net_of
            told-cut i p r = told (cut_done g a o d is_taken ok (sym u ∙ i) _ p _ r)

            pub told_free :
                b ≡ false
                → {w : Way} {o' : List ℕ} → w ≡ route_way (tree_of g) a.start
                → o' ≡ row_of (route (tree_of g) a.start) o → Told (Ok (Ordinary w)) o' d
            unfolding cut_off net_of
            told_free i p r = told (ordinary_done g a o d is_taken ok (sym u ∙ i) _ p _ r)
