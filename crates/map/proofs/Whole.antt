-- The map of a table is the map of its network. Assumes nothing.
use Rattle.std.specs.Prelude.{Err, Ok, Result}
use mathlib.Core.Path.{◌≡◌, refl, sym, ap, ◌∙◌}
use mathlib.Core.Bool.{Bool, true, false, ◌&&◌, ◌||◌}
use mathlib.Core.List.{List, [], ◌∷◌, ◌++◌}
use Prim.Native.Nat.{ℕ, ◌+◌, ◌*◌, ◌<◌, ◌≤◌}
use lib.Dec.{eqb, ltb}
use lib.ListN.{length, drop}
use borrow.Author.Tests.{ltb-true, le-ltb, lt-ltb}
use Rattle.edition.specs.declared.Refusal.{Refusal}
use Rattle.edition.specs.Refusals.{Verdict, taken}
use Rattle.edition.specs.declared.Why.TheVariants.{NoRoom}
use Rattle.edition.specs.Limits.{no_node, map_words, word_bits}
use Rattle.edition.specs.declared.Entry.{Entry}
use Rattle.edition.specs.Entries.{none_state, bridge_state}
use Rattle.entries.specs.Row.{entry_at, past_entries}
use Rattle.rows.specs.Count.{only_if, row_with}
use Rattle.rows.specs.First.{refuse_if, firstly, found_or}
use Rattle.rows.proofs.Best.{first_cong}
use Rattle.rows.proofs.Counting.{sum_cong}
use Rattle.rows.proofs.Records.{rows_cong}
use Rattle.rows.proofs.Refusing.{head_refuses}
use Rattle.network.specs.Network.{Net}
use Rattle.sound.specs.Sound.{net_verdict}
use Rattle.sound.proofs.Sounds.{sound}
use Rattle.sound.proofs.Holding.{nodes-few}
use Rattle.swap.specs.Entry.{state}
use Rattle.swap.proofs.Stating.{entry-state}
use Rattle.table.specs.Table.{table, table_verdict, table_row}
use Rattle.table.proofs.Single.{bare_row, bare_verdict}
use Rattle.table.proofs.Whole.{table_sound, table-entry}
use Rattle.map.specs.declared.Unprotected.{Unprotected}
use Rattle.map.specs.Map.{unprotected, word, map_of, count_unprotected, lowest, told_of, map_verdict, map_answer, map_row}
use Rattle.map.specs.Work.{open_by, packed, word_by, words_by, ones_in, lowest_in, too_short, told_by, left_by}
use Rattle.map.proofs.Packing.{packed_cong}
use Rattle.map.proofs.Wording.{ones_are, lowest-is}

-- the state of x in a row that begins with the table
state_at : (g : Net) (more : List ℕ) (x : ℕ) → x < g.nodes → (entry_at (table g ++ more) x).state ≡ state g x
state_at g more x l = ap (λ (e : Entry). e.state) (table-entry g more x l) ∙ entry-state g x

module _ (g : Net) where
  net_refused : (r : Refusal) → table_verdict g bare_row ≡ Err r → net_verdict g ≡ Err r
  net_refused r q = go (net_verdict g) refl
    where
      go : (v : Verdict) → net_verdict g ≡ v → net_verdict g ≡ Err r
      go v e = e ∙ (sym (bare_verdict g v e) ∙ q)

  module _ (words : List ℕ) where
    -- a network that is refused
    module _ (v : Verdict) (q : v ≡ table_verdict g bare_row) (r : Refusal) (t : v ≡ Err r) where
      map_refuses : map_verdict g words ≡ Err r
      unfolding map_verdict
      map_refuses = head_refuses _ _ r (net_refused r (sym q ∙ t))

      pub map-not : (Err r ≡ map_answer g words) × (words ≡ map_row g words)
      unfolding map_answer map_row
      map-not = (rw map_refuses, rw map_refuses)

    -- one that is sound, and its table
    module _ (v : Verdict) (q : v ≡ table_verdict g bare_row) (t : v ≡ taken) (row : List ℕ) (e : row ≡ table_row g bare_row) where
      ok : net_verdict g ≡ taken
      ok = table_sound g bare_row v q t

      few : g.nodes ≤ map_words * word_bits
      few = nodes-few g (sound g ok)

      row_is : row ≡ table g ++ past_entries g.nodes bare_row
      unfolding table_row
      row_is = e ∙ rw (← q, t)

      same : (x : ℕ) → open_by row g.nodes x ≡ unprotected g x
      unfolding open_by unprotected
      same x = go (ltb x g.nodes) refl
        where
          go : (b : Bool) → ltb x g.nodes ≡ b → open_by row g.nodes x ≡ unprotected g x
          go true l =
              ap (λ s. ltb x g.nodes && (eqb s none_state || eqb s bridge_state))
              (ap (λ (r : List ℕ). (entry_at r x).state) row_is ∙ state_at g (past_entries g.nodes bare_row) x (ltb-true x g.nodes l))
          go false l = rw l

      past : (x : ℕ) → g.nodes ≤ x → open_by row g.nodes x ≡ false
      unfolding open_by
      past x l = rw (le-ltb x g.nodes l)

      words_are : words_by (open_by row g.nodes) words ≡ map_of g ++ drop map_words words
      unfolding words_by row_with map_of word word_by packed
      words_are =
          ap (λ (r : List ℕ). r ++ drop map_words words)
          (rows_cong _ _ map_words (λ i l. ap (λ w. w ∷ []) (packed_cong _ _ word_bits (λ j m. same (i * word_bits + j)))))

      told : Unprotected
      told =
          record {
            count = ones_in (words_by (open_by row g.nodes) words);
            lowest = lowest_in (words_by (open_by row g.nodes) words);
          }

      told_is : told ≡ told_of g
      unfolding told told_of count_unprotected lowest
      told_is =
          let counts = ones_are (open_by row g.nodes) g.nodes few past words ∙ sum_cong _ _ g.nodes (λ x l. ap (λ b. only_if b 1) (same x)) in
          let lows = lowest-is (open_by row g.nodes) g.nodes few past words ∙ ap (found_or no_node) (first_cong _ _ g.nodes (λ x l. same x)) in
          rw (counts, lows)

      pub map_is :
          (r : Result Unprotected Refusal)
          → r ≡ told_by (open_by row g.nodes) words → (after : List ℕ) → after ≡ left_by (open_by row g.nodes) words
          → (r ≡ map_answer g words) × (after ≡ map_row g words)
      unfolding told told_by left_by map_answer map_row map_verdict refuse_if too_short firstly
      map_is r p after s = go (ltb (length words) map_words) refl
        where
          go : (b : Bool) → ltb (length words) map_words ≡ b → (r ≡ map_answer g words) × (after ≡ map_row g words)
          go true l = (p ∙ rw (ok, l), s ∙ rw (ok, l))
          go false l = (p ∙ rw (ok, l) (ap Ok told_is), s ∙ rw (ok, l) words_are)

-- what the lent row's length decides
module _ (p : ℕ → Bool) (words : List ℕ) where
  pub too_short_lem : length words < map_words → (Err (record { why = NoRoom; place = 0 }) ≡ told_by p words) × (words ≡ left_by p words)
  unfolding told_by left_by too_short
  too_short_lem l = (rw (lt-ltb (length words) map_words l), rw (lt-ltb (length words) map_words l))

  pub long-enough :
      map_words ≤ length words
      → (after : List ℕ) → after ≡ words_by p words → (count : ℕ) → count ≡ ones_in after → (low : ℕ)
      → low ≡ lowest_in after → (Ok (record { count = count; lowest = low }) ≡ told_by p words) × (after ≡ left_by p words)
  unfolding told_by left_by too_short
  long-enough l after e count c low d =
      (rw (le-ltb (length words) map_words l, ← e, c, d), rw (le-ltb (length words) map_words l) e)
