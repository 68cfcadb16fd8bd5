-- Verdicts, answers and rows of a call, case by case: refused by the network, by what is asked, for want of a swap link; or a list in one
-- of the two rows. Assumes nothing.
use Rattle.std.specs.Prelude.{Result, Ok, Err}
use mathlib.Core.Path.{◌≡◌, refl, sym, ◌∙◌}
use mathlib.Core.Bool.{Bool, true, false}
use mathlib.Core.List.{List}
use Prim.Native.Nat.{ℕ, ◌<◌, ◌≤◌}
use lib.Dec.{eqb, leb, ltb}
use lib.ListN.{length}
use borrow.Author.Tests.{eqb-false, leb-false, ltb-false}
use Rattle.edition.specs.declared.Refusal.{Refusal}
use Rattle.edition.specs.Refusals.{Verdict, taken}
use Rattle.edition.specs.declared.Why.TheVariants.{NoRoom, BadStart, BadFailed, NoSwap}
use Rattle.edition.specs.Entries.{swap_state}
use Rattle.edition.specs.Limits.{route_room}
use Rattle.rows.specs.First.{refuse_if}
use Rattle.rows.proofs.Tests.{or_false}
use Rattle.rows.proofs.Refusing.{head_taken, rest-taken, if_taken_lem, if_passes, head_refuses, head_passes, only_one}
use Rattle.network.specs.Network.{Net}
use Rattle.tree.specs.Tree.{tree_of, route}
use Rattle.sound.specs.Sound.{net_verdict}
use Rattle.swap.specs.Entry.{entry}
use Rattle.forward.specs.declared.Ask.{Ask}
use Rattle.forward.specs.declared.Way.{Way}
use Rattle.forward.specs.declared.Applies.{Applies}
use Rattle.forward.specs.declared.Applies.TheVariants.{Ordinary}
use Rattle.forward.specs.Forward.{cut_off}
use Rattle.forward.specs.Answers.{ask_verdict, stranded, forward_verdict, applies, row_of, ordinary_row, detour_row}
use Rattle.forward.specs.Work.{Node, route_way, cut_applies, cut_row}
use Rattle.forward.proofs.Swapping.{route-way, route-listed}

-- what is asked and not refused: both rows have room, the start is a node, the failed node is one and not the root
pub record Fits (n root : ℕ) (a : Ask) (ordinary detour : ℕ) : Type 0 where
  pub ordinary_room : route_room ≤ ordinary
  pub detour-room : route_room ≤ detour
  pub start-low : a.start < n
  pub failed_low : a.failed < n
  pub below : a.failed ≡ root → ⊥

pub ask_fits : (n root : ℕ) (a : Ask) (ordinary detour : ℕ) → ask_verdict n root a ordinary detour ≡ taken → Fits n root a ordinary detour
unfolding ask_verdict
ask_fits n root a ordinary detour h =
    let rooms = or_false (ltb ordinary route_room) (ltb detour route_room) (if_taken_lem _ NoRoom 0 (head_taken _ _ h)) in
    let rest = rest-taken _ _ h in
    let failed = or_false (leb n a.failed) (eqb a.failed root) (if_taken_lem _ BadFailed 0 (head_taken _ _ (rest-taken _ _ rest))) in
    record {
      ordinary_room = ltb-false ordinary route_room rooms.0;
      detour-room = ltb-false detour route_room rooms.1;
      start-low = leb-false n a.start (if_taken_lem _ BadStart 0 (head_taken _ _ rest));
      failed_low = leb-false n a.failed failed.0;
      below = eqb-false a.failed root failed.1;
    }

module _ (g : Net) (a : Ask) (ordinary detour : List ℕ) where
  -- what a call answers and leaves in the two rows
  pub record Done (it : Result Applies Refusal) (ordinary' detour' : List ℕ) : Type 0 where
    pub said : it ≡ applies g a ordinary detour
    pub one : ordinary' ≡ ordinary_row g a ordinary detour
    pub two : detour' ≡ detour_row g a ordinary detour

  -- a refusal leaves both as they were
  refused_done : (r : Refusal) → forward_verdict g a ordinary detour ≡ Err r → Done (Err r) ordinary detour
  unfolding applies ordinary_row detour_row
  refused_done r q = record { said = rw q; one = rw q; two = rw q }

  pub net_done : (v : Verdict) → v ≡ net_verdict g → (r : Refusal) → v ≡ Err r → Done (Err r) ordinary detour
  unfolding forward_verdict
  net_done v q r t = refused_done r (head_refuses _ _ r (sym q ∙ t))

  module _ (is_taken : net_verdict g ≡ taken) where
    pub ask_done :
        (v : Verdict)
        → v ≡ ask_verdict g.nodes g.search.root a (length ordinary) (length detour) → (r : Refusal) → v ≡ Err r
        → Done (Err r) ordinary detour
    unfolding forward_verdict
    ask_done v q r t = refused_done r (head_passes _ _ is_taken ∙ head_refuses _ _ r (sym q ∙ t))

    module _ (fits : ask_verdict g.nodes g.search.root a (length ordinary) (length detour) ≡ taken) where
      -- 17 decides where 1 to 16 refuse nothing
      pub last_decides : forward_verdict g a ordinary detour ≡ refuse_if (stranded g a) NoSwap a.failed
      unfolding forward_verdict
      last_decides = head_passes _ _ is_taken ∙ head_passes _ _ fits ∙ only_one _

      start-node : Node g a.start
      start-node = record { is_taken = is_taken; low = (ask_fits _ _ a _ _ fits).start-low }

      failed_node : Node g a.failed
      failed_node = record { is_taken = is_taken; low = (ask_fits _ _ a _ _ fits).failed_low }

      -- a start that is not cut off
      module _ (free : cut_off g a ≡ false) where
        free-taken : forward_verdict g a ordinary detour ≡ taken
        unfolding stranded
        free-taken = last_decides ∙ if_passes _ NoSwap a.failed (rw free)

        pub ordinary_done :
            (w : Way)
            → w ≡ route_way (tree_of g) a.start → (row : List ℕ) → row ≡ row_of (route (tree_of g) a.start) ordinary
            → Done (Ok (Ordinary w)) row detour
        unfolding applies ordinary_row detour_row
        ordinary_done w q row p =
            record {
              said = rw (free-taken, free, q, route-way g a start-node failed_node free);
              one = rw (free-taken, free, p, route-listed g a start-node failed_node free);
              two = rw (free-taken, free);
            }

      -- one that is
      module _ (cut : cut_off g a ≡ true) where
        pub cut_done : (it : Result Applies Refusal) → it ≡ cut_applies g a → (row : List ℕ) → row ≡ cut_row g a detour → Done it ordinary row
        unfolding stranded cut_applies cut_row applies ordinary_row detour_row refuse_if
        cut_done it q row p = go (eqb (entry g a.failed).state swap_state) refl
          where
            go : (b : Bool) → eqb (entry g a.failed).state swap_state ≡ b → Done it ordinary row
            go true e =
                let t : forward_verdict g a ordinary detour ≡ taken = last_decides ∙ rw (cut, e) in
                record {
                  said = q ∙ rw (e, t, cut);
                  one = rw (t, cut);
                  two = p ∙ rw (e, t, cut);
                }
            go false e =
                let t : forward_verdict g a ordinary detour ≡ Err (record { why = NoSwap; place = a.failed }) = last_decides ∙ rw (cut, e) in
                record { said = q ∙ rw (e, t); one = rw t; two = p ∙ rw (e, t) }
