-- The stored entries of a file, compared with those worked out. Assumes nothing.
use Rattle.std.specs.Prelude.{Err, Option}
use mathlib.Core.Path.{◌≡◌, sym, subst, ap, ap₂, ◌∙◌}
use mathlib.Core.Bool.{Bool, not}
use mathlib.Core.List.{List, ◌++◌, append-nil}
use Prim.Native.Nat.{ℕ, ◌+◌}
use native.Mathlib.Omega.{arith}
use lib.ListN.{length, get_or, take, drop, replicate, length-replicate, drop_of_length-le}
use lib.Seq.{sets-eq}
use Rattle.edition.specs.declared.Entry.{Entry}
use Rattle.edition.specs.declared.Search.{Search}
use Rattle.edition.specs.declared.Refusal.{Refusal}
use Rattle.edition.specs.Refusals.{Verdict, taken}
use Rattle.edition.specs.declared.Why.TheVariants.{NoRoom, BadEntry}
use Rattle.rows.proofs.Refusing.{head_refuses, head_passes, only_one}
use Rattle.edition.specs.Limits.{no_link}
use Rattle.edition.specs.Stored.{entry_bytes}
use Rattle.rows.specs.First.{first_to, refuse_if, refuse_at, refused_at}
use Rattle.rows.specs.Lists.{same}
use Rattle.rows.proofs.Best.{first_cong}
use Rattle.network.specs.Network.{Net, links_in, net_of}
use Rattle.sound.specs.Sound.{net_verdict}
use Rattle.entries.specs.Row.{entry_at}
use Rattle.table.proofs.Whole.{table-entry}
use Rattle.record.specs.Record.{entry_record, record_put}
use Rattle.record.proofs.Putting.{entry-size}
use Rattle.archive.specs.Parts.{entry_place}
use Rattle.archive.specs.Work.{Tabled, bad_by, bad_stored, Placed, content_verdict, Judged}

-- a record put into a row of its size is the row
own_is : (u : ℕ) (e : Entry) (own : List ℕ) → own ≡ record_put 0 entry_bytes (entry_record u e) (replicate entry_bytes 0) → own ≡ entry_record u e
unfolding record_put
own_is u e own q =
    let zeros : length (replicate {A = ℕ} entry_bytes 0) ≡ entry_bytes = length-replicate {A = ℕ} entry_bytes 0 in
    q
    ∙ (sets-eq (entry_record u e) (replicate entry_bytes 0) 0 (omega (arith, zeros, entry-size u e))
    ∙ (ap (λ (r : List ℕ). entry_record u e ++ r)
    (drop_of_length-le (replicate entry_bytes 0) {i = 0 + length (entry_record u e)}
    (omega (arith, zeros, entry-size u e)))
    ∙ append-nil (entry_record u e)))

module _ (u : ℕ) (e : Entry) (own : List ℕ) (q : own ≡ record_put 0 entry_bytes (entry_record u e) (replicate entry_bytes 0)) where
  pub own-length : length own ≡ entry_bytes
  own-length = ap length (own_is u e own q) ∙ entry-size u e

  pub bad_is :
      (file : List ℕ) (m : ℕ) (parents entries : List ℕ) (x : ℕ)
      → u ≡ get_or parents x no_link → e ≡ entry_at entries x → (place : ℕ) → place ≡ entry_place m x → (b : Bool)
      → b ≡ same (take (length own) (drop place file)) own → not b ≡ bad_by file m parents entries x
  unfolding bad_by
  bad_is file m parents entries x p w place z b s =
      ap not
      (s
      ∙ (ap (λ k. same (take k (drop place file)) own) own-length
      ∙ (ap (λ k. same (take entry_bytes (drop k file)) own) z
      ∙ (ap (same (take entry_bytes (drop (entry_place m x) file))) (own_is u e own q)
      ∙ ap₂ (λ (a : ℕ) (b : Entry). same (take entry_bytes (drop (entry_place m x) file)) (entry_record a b)) p w))))

pub placed_by : (file : List ℕ) (n m l : ℕ) → m ≡ l → Placed file l n → Placed file m n
placed_by file n m l q p = subst (λ k. Placed file k n) (sym q) p

-- by a row that begins with the table
module _ (file links parents : List ℕ) (search : Search) (short : Bool) where
  abbrev g : Net
  g = net_of links parents search

  stored_bad :
      (worked : List ℕ)
      → Tabled g worked → (m : ℕ) → m ≡ links_in links
      → first_to (bad_by file m parents worked) (length parents)
      ≡ first_to (bad_stored file g) (length parents)
  unfolding bad_by bad_stored net_of
  stored_bad worked t m c =
      first_cong _ _ (length parents)
      (λ x l.
      ap₂ (λ (k : ℕ) (own : Entry). not (same (take entry_bytes (drop (entry_place k x) file)) (entry_record (get_or parents x no_link) own))) c
      (ap (λ (row : List ℕ). entry_at row x) t.is
      ∙ table-entry g t.more x l))

  -- the checks of the content in their order
  refused_judged : (v : Verdict) (r : Refusal) → v ≡ Err r → content_verdict file g short ≡ Err r → (row : List ℕ) → Judged file g short v row
  refused_judged v r t e row =
      record { is = t ∙ sym e; tabled = λ ok. let clash : ◌≡◌ {A = ℕ} 0 1 = cc in absurd (omega arith) }

  pub net_judged : (v : Verdict) → v ≡ net_verdict g → (r : Refusal) → v ≡ Err r → (row : List ℕ) → Judged file g short v row
  unfolding content_verdict
  net_judged v q r t row = refused_judged v r t (head_refuses _ _ r (sym q ∙ t)) row

  module _ (worked : List ℕ) (t : Tabled g worked) (w : Verdict) (wis : w ≡ refuse_if short NoRoom 0) where
    pub room_judged : (r : Refusal) → w ≡ Err r → Judged file g short w worked
    unfolding content_verdict
    room_judged r q = refused_judged w r q (head_passes _ _ t.ok ∙ head_refuses _ _ r (sym wis ∙ q)) worked

    pub entries_judged :
        w ≡ taken
        → (m : ℕ) → m ≡ links_in links → (f : Option ℕ) → f ≡ first_to (bad_by file m parents worked) (length parents) → (x : Verdict)
        → x ≡ refused_at BadEntry f → Judged file g short x worked
    unfolding content_verdict refuse_at net_of
    entries_judged o m c f e x q =
        record {
          is =
              q
              ∙ (ap (refused_at BadEntry) (e ∙ stored_bad worked t m c)
              ∙ sym (head_passes _ _ t.ok ∙ (head_passes _ _ (sym wis ∙ o) ∙ only_one _)));
          tabled = λ ok. t;
        }
