-- A start that is cut off: refused where the failed node has no swap link, else listed around by it. Assumes nothing.
use Rattle.std.specs.Prelude.{Ok, Err}
use mathlib.Core.Path.{◌≡◌, refl, sym, ap, ◌∙◌}
use mathlib.Core.Bool.{Bool, true, false, not}
use mathlib.Core.List.{List}
use Prim.Native.Nat.{ℕ, ◌<◌}
use lib.Dec.{eqb}
use lib.ListN.{length}
use borrow.Author.Tests.{eq-eqb, eqb-true}
use Rattle.edition.specs.declared.Entry.{Entry}
use Rattle.edition.specs.declared.Refusal.{Refusal}
use Rattle.edition.specs.declared.Search.{Search}
use Rattle.edition.specs.declared.Swap.{Swap}
use Rattle.edition.specs.declared.Why.TheVariants.{NoSwap}
use Rattle.edition.specs.Entries.{swap_state, swap_by}
use Rattle.edition.specs.Refusals.{Verdict, taken}
use Rattle.rows.specs.First.{refuse_if}
use Rattle.rows.proofs.Refusing.{if_taken_lem}
use Rattle.network.specs.Network.{Net, net_of, link_in}
use Rattle.tree.specs.Tree.{tree_of}
use Rattle.swap.specs.Entry.{entry}
use Rattle.forward.specs.declared.Ask.{Ask}
use Rattle.forward.specs.declared.Over.{Over}
use Rattle.forward.specs.declared.Way.{Way}
use Rattle.forward.specs.declared.Applies.TheVariants.{Detour}
use Rattle.forward.specs.Forward.{lower_end, upper_end, swap_link, around}
use Rattle.forward.specs.Answers.{row_of}
use Rattle.forward.specs.Work.{Node, over_by, Around, around_way, Cut, cut_applies, cut_row}
use Rattle.forward.proofs.Swapping.{over-is, cut_around, detour-way, detour-listed}

module _ (links parents : List ℕ) (search : Search) {survey : List ℕ} {a : Ask} (h : Cut (net_of links parents search) survey a) where
  abbrev g : Net
  g = net_of links parents search

  pub failed_there : a.failed < length parents
  unfolding net_of
  failed_there = h.failed_low

  start : Node g a.start
  start = record { is_taken = h.surveyed.is_taken; low = h.start-low }

  failed : Node g a.failed
  failed = record { is_taken = h.surveyed.is_taken; low = h.failed_low }

  far : a.failed ≡ (tree_of g).root → ⊥
  unfolding tree_of
  far = h.below

  module _ {e : Entry} (q : e ≡ entry g a.failed) where
    module _ {v : Verdict} (z : v ≡ refuse_if (not (eqb e.state swap_state)) NoSwap a.failed) where
      asked : v ≡ refuse_if (not (eqb (entry g a.failed).state swap_state)) NoSwap a.failed
      asked = z ∙ ap (λ (i : Entry). refuse_if (not (eqb i.state swap_state)) NoSwap a.failed) q

      -- no swap link
      pub cut-none : {r : Refusal} → v ≡ Err r → (row : List ℕ) → (Err r ≡ cut_applies g a) × (row ≡ cut_row g a row)
      unfolding cut_applies cut_row refuse_if
      cut-none {r} i row = go (eqb (entry g a.failed).state swap_state) refl (sym asked ∙ i)
        where
          go :
              (b : Bool)
              → eqb (entry g a.failed).state swap_state ≡ b → refuse_if (not (eqb (entry g a.failed).state swap_state)) NoSwap a.failed ≡ Err r
              → (Err r ≡ cut_applies g a) × (row ≡ cut_row g a row)
          go true h t = absurd (let n = rw h at t in cc)
          go false h t =
              let n = rw h at t in
              let same : r ≡ record { why = NoSwap; place = a.failed } = cc in (rw h (ap Err same), rw h)

      -- one
      pub cut-some : v ≡ taken → e.state ≡ swap_state
      cut-some t = go (eqb e.state swap_state) refl
        where
          go : (b : Bool) → eqb e.state swap_state ≡ b → e.state ≡ swap_state
          go true h = eqb-true e.state swap_state h
          go false h = let n = if_taken_lem (not (eqb e.state swap_state)) NoSwap a.failed (sym z ∙ t) in absurd (let m = rw h at n in cc)

    module _ (s : e.state ≡ swap_state) {k : Swap} (p : k ≡ swap_by e a.measure) {o : Over} (r : o ≡ over_by (link_in links k.link) k.lower) where
      has : (entry g a.failed).state ≡ swap_state
      has = ap (λ (i : Entry). i.state) (sym q) ∙ s

      over-told : o ≡ record { from = lower_end g a; to = upper_end g a; length = (g.link (swap_link g a)).length }
      unfolding net_of
      over-told =
          r
          ∙ ap (λ (i : Swap). over_by (link_in links i.link) i.lower) (p ∙ ap (λ (i : Entry). swap_by i a.measure) q)
          ∙ over-is g a start failed h.cut far has

      pub cut_asks : Around g a.failed a.start o.from o.to
      cut_asks = rw over-told (cut_around g a start failed h.cut far has)

      pub cut-listed :
          {w : Way} (row : List ℕ) {row' : List ℕ}
          → w ≡ around_way (tree_of g) a.failed o.from o.to o.length a.start
          → row' ≡ row_of (around (tree_of g) a.failed o.from o.to a.start) row
          → (Ok (Detour w) ≡ cut_applies g a) × (row' ≡ cut_row g a row)
      unfolding cut_applies cut_row
      cut-listed {w} row {row'} i j =
          let x = a.failed in
          let state = eq-eqb (entry g x).state swap_state has in
          let told = detour-way g a start failed h.cut far has in
          let list = detour-listed g a start failed h.cut far has in
          (rw (state, i, over-told, told), rw (state, j, over-told, list))
