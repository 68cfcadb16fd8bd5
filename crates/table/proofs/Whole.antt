-- The lent row as a whole: some entries afresh, and the table as the case of all. Assumes nothing.
use Rattle.std.specs.Prelude.{Err, Ok, Result}
use Rattle.std.proofs.Common.{◌≡◌, ℕ, ◌<◌, ◌≤◌, true, ltb, List, [], ◌∷◌, ◌++◌, replicate, sym, refl, ap, ◌∙◌, arith, ltb-false}
use lib.ListN.{get_or-replicate}
use Rattle.edition.specs.declared.Refusal.{Refusal}
use Rattle.edition.specs.Refusals.{Verdict, taken}
use Rattle.edition.specs.declared.Why.TheVariants.{NoRoom}
use Rattle.edition.specs.Limits.{node_limit}
use Rattle.entries.specs.Row.{entry_row, entries_in, entry_at, past_entries}
use Rattle.entries.proofs.Keeping.{entry-sized, entry_known, rows_standing}
use Rattle.rows.specs.First.{refuse_if, firstly}
use Rattle.rows.proofs.Refusing.{head_taken, rest-taken, if_taken_lem, head_refuses, head_passes, only_one}
use Rattle.rows.specs.Count.{rows_to}
use Rattle.rows.proofs.Records.{rows_cong}
use Rattle.network.specs.Network.{Net}
use Rattle.survey.specs.Row.{nodes_in}
use Rattle.sound.specs.declared.Sizes.{Sizes}
use Rattle.sound.specs.Sound.{net_verdict, checked}
use Rattle.sound.proofs.Handing.{sound_told, handed_then}
use Rattle.sound.proofs.Sounds.{sound}
use Rattle.sound.proofs.Holding.{nodes-few}
use Rattle.swap.specs.Entry.{entry}
use Rattle.sound.specs.Surveyed.{sound_verdict}
use Rattle.sound.proofs.Surveying.{verdict_net}
use Rattle.table.specs.Table.{table, is_asked, fresh_at, table_verdict, work_verdict, table_row, fresh_row}

-- 10, behind the check of the network
pub table_judged :
    (g : Net) (row : List ℕ) (s : Result Sizes Refusal) (z : Sizes)
    → s ≡ checked g → s ≡ Ok z → (k : ℕ) → k ≡ entries_in row → (w : Verdict)
    → w ≡ refuse_if (ltb k z.nodes) NoRoom 0 → w ≡ table_verdict g row
unfolding table_verdict
table_judged g row s z e t k p w q =
    q
    ∙ (λ i. refuse_if (ltb (p i) ((sound_told g s z e t).1 i)) NoRoom 0)
    ∙ handed_then g s e z t (refuse_if (ltb (entries_in row) g.nodes) NoRoom 0)

module _ (g : Net) (row : List ℕ) where
  -- what 1 to 10 leave
  pub table_sound : (v : Verdict) → v ≡ table_verdict g row → v ≡ taken → net_verdict g ≡ taken
  unfolding table_verdict
  table_sound v q t = head_taken _ _ (sym q ∙ t)

  pub table-room : (v : Verdict) → v ≡ table_verdict g row → v ≡ taken → g.nodes ≤ entries_in row
  unfolding table_verdict
  table-room v q t =
      ltb-false (entries_in row) g.nodes (if_taken_lem _ NoRoom 0 (head_taken _ _ (rest-taken _ _ (sym q ∙ t))))

  -- the verdict on the network, then that on the room
  pub table-refused : (v : Verdict) (r : Refusal) → v ≡ net_verdict g → v ≡ Err r → v ≡ table_verdict g row
  unfolding table_verdict
  table-refused v r q t = t ∙ sym (head_refuses _ _ r (sym q ∙ t))

  pub table_decided : net_verdict g ≡ taken → (k : ℕ) → k ≡ entries_in row → (w : Verdict) → w ≡ refuse_if (ltb k g.nodes) NoRoom 0 → w ≡ table_verdict g row
  unfolding table_verdict
  table_decided t k p w q = q ∙ ap (λ (j : ℕ). refuse_if (ltb j g.nodes) NoRoom 0) p ∙ sym (head_passes _ _ t ∙ only_one _)

  -- with a row for the survey
  module _ (survey : List ℕ) where
    pub work_refused : (v : Verdict) (r : Refusal) → v ≡ sound_verdict g survey → v ≡ Err r → v ≡ work_verdict g survey row
    unfolding work_verdict
    work_refused v r q t = t ∙ sym (head_refuses _ _ r (sym q ∙ t))

    pub work_decided :
        (v : Verdict)
        → v ≡ sound_verdict g survey → v ≡ taken → (k : ℕ) → k ≡ entries_in row → (w : Verdict)
        → w ≡ refuse_if (ltb k g.nodes) NoRoom 0 → w ≡ work_verdict g survey row
    unfolding work_verdict
    work_decided v e t k p w q =
        q ∙ ap (λ (j : ℕ). refuse_if (ltb j g.nodes) NoRoom 0) p ∙ sym (head_passes _ _ (sym e ∙ t) ∙ only_one _)

    pub work_table : node_limit ≤ nodes_in survey → work_verdict g survey row ≡ table_verdict g row
    unfolding work_verdict table_verdict
    work_table h = ap (λ (v : Verdict). firstly (v ∷ refuse_if (ltb (entries_in row) g.nodes) NoRoom 0 ∷ [])) (verdict_net g survey h)

  module _ (asked : List ℕ) where
    pub fresh_taken :
        (v : Verdict)
        → v ≡ table_verdict g row → v ≡ taken → (row' : List ℕ)
        → row' ≡ rows_to (fresh_at g asked row) g.nodes ++ past_entries g.nodes row
        → (taken ≡ table_verdict g row) × (row' ≡ fresh_row g asked row)
    unfolding fresh_row
    fresh_taken v q t row' h = (sym t ∙ q, rw (← q, t) h)

    pub fresh_refused : (v : Verdict) (r : Refusal) → v ≡ table_verdict g row → v ≡ Err r → (v ≡ table_verdict g row) × (row ≡ fresh_row g asked row)
    unfolding fresh_row
    fresh_refused v r q t = (q, rw (← q, t))

  -- all nodes
  one-marked : (x : ℕ) → x < node_limit → is_asked (replicate node_limit 1) x ≡ true
  unfolding is_asked
  one-marked x l = rw (get_or-replicate {A = ℕ} node_limit x 1 0 l)

  pub all_fresh : fresh_row g (replicate node_limit 1) row ≡ table_row g row
  unfolding fresh_row table_row table fresh_at
  all_fresh = go (table_verdict g row) refl
    where
      go : (v : Verdict) → table_verdict g row ≡ v → fresh_row g (replicate node_limit 1) row ≡ table_row g row
      go (Ok _) q =
          rw q
          (ap (λ (r : List ℕ). r ++ past_entries g.nodes row)
          (rows_cong (fresh_at g (replicate node_limit 1) row) (λ x. entry_row (entry g x)) g.nodes
          (λ x l. rw (one-marked x (omega (arith, l, nodes-few g (sound g (table_sound taken (sym q) refl))))))))
      go (Err r) q = rw q

-- the entries of a row that begins with the table
pub table-entry : (g : Net) (more : List ℕ) (x : ℕ) → x < g.nodes → entry_at (table g ++ more) x ≡ entry g x
unfolding table
table-entry g more x l =
    entry_known (table g ++ more) x (entry g x)
    (rows_standing (λ y. entry_row (entry g y)) g.nodes (λ y m. entry-sized (entry g y)) more x l)
