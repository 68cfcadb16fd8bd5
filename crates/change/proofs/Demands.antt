-- Demand 3 on what a change leaves. Where it is taken: each entry on the tree path between the link's ends is the fresh one, each
-- other entry and all room past them stand byte for byte as lent, from any table, and of the network one link's length and mark
-- change. 13 is given exactly where the changed network would be refused by 9. Assumes nothing.
use Rattle.std.specs.Prelude.{Err, Ok}
use mathlib.Core.Path.{◌≡◌, refl, sym, subst, ap, ◌∙◌}
use mathlib.Core.Bool.{Bool, true, false}
use mathlib.Core.List.{List, [], ◌∷◌}
use Prim.Native.Nat.{ℕ, ◌<◌, ◌≤◌}
use lib.Dec.{leb}
use lib.ListN.{length}
use borrow.Author.Tests.{ne_eqb, leb-false}
use Rattle.edition.specs.declared.Change.{Change}
use Rattle.edition.specs.declared.Refusal.{Refusal}
use Rattle.edition.specs.declared.Search.{Search}
use Rattle.edition.specs.Refusals.{Verdict, taken, number_of, refused}
use Rattle.edition.specs.declared.Why.TheVariants.{BadMark, NotShort, LinkMissing, TreeLink, BreaksShort}
use Rattle.rows.specs.First.{refuse_if, firstly}
use Rattle.rows.specs.Lists.{has}
use Rattle.rows.proofs.Numbered.{if_gives, passed}
use Rattle.rows.proofs.Refusing.{head_taken, rest-taken, both_taken, none_left, head_passes, if_taken_lem, if_passes, only_one}
use Rattle.entries.specs.Row.{entry_row, entries_in, standing, past_entries}
use Rattle.entries.proofs.Keeping.{rows_past}
use Rattle.network.specs.Network.{Net, net_of, link_in, is_parent}
use Rattle.network.specs.Records.{bad_mark}
use Rattle.tree.specs.Tree.{tree_of, on_path}
use Rattle.sound.specs.Sound.{net_verdict}
use Rattle.sound.proofs.Sounds.{sound, taken as is_taken}
use Rattle.swap.specs.Entry.{entry}
use Rattle.table.specs.Table.{table_verdict}
use Rattle.table.proofs.Numbers.{of_table, table_gives}
use Rattle.table.proofs.Whole.{table_sound, table-room}
use Rattle.change.specs.Change.{breaks, change_verdict, changed_link, set_link, mended, Lent, changed}
use Rattle.change.proofs.Setting.{link_other, link_set}
use Rattle.change.proofs.Staying.{Asked, allowed, broken_refused, unbroken_sound}
use Rattle.change.proofs.Mending.{on_way, made_at, mended_rows, made_size, on_path_fresh, off_path_kept}

module _ (parents : List ℕ) (search : Search) (c : Change) (lent : Lent) where
  abbrev old : Net
  old = net_of lent.links parents search

  abbrev after : Lent
  after = changed parents search c lent

  -- does the tree link of x lie on the tree path between the link's ends?
  abbrev pub on_the_path : ℕ → Bool
  on_the_path x = on_path (tree_of old) (link_in lent.links c.link).first (link_in lent.links c.link).second x

  module _ (t : change_verdict old lent.entries c ≡ taken) where
    -- the row of links is the lent one with that link's record so changed
    pub changed_row : after.links ≡ set_link lent.links c
    unfolding changed
    changed_row = rw t

    entries_are : after.entries ≡ mended old (net_of (set_link lent.links c) parents search) c.link lent.entries
    unfolding changed
    entries_are = rw t

    room : length parents ≤ entries_in lent.entries
    unfolding change_verdict net_of
    room = table-room old lent.entries taken (sym (head_taken _ _ t)) refl

    -- each entry on the path is the one of the network that the change leaves
    pub changed_fresh :
        (x : ℕ) → x < length parents → on_the_path x ≡ true → standing after.entries x ≡ entry_row (entry (net_of after.links parents search) x)
    unfolding on_way
    changed_fresh x l h =
        ap (λ (r : List ℕ). standing r x) entries_are
        ∙ (on_path_fresh lent.links parents search c (allowed old lent.entries c t) lent.entries room x l h
        ∙ ap (λ (r : List ℕ). entry_row (entry (net_of r parents search) x)) (sym changed_row))

    -- each other entry stands as it was lent
    pub changed-kept : (x : ℕ) → x < length parents → on_the_path x ≡ false → standing after.entries x ≡ standing lent.entries x
    unfolding on_way
    changed-kept x l h =
        ap (λ (r : List ℕ). standing r x) entries_are
        ∙ off_path_kept lent.links parents search c (allowed old lent.entries c t) lent.entries room x l h

    -- and so does the room past the entries
    pub changed-past : past_entries (length parents) after.entries ≡ past_entries (length parents) lent.entries
    changed-past =
        let a = allowed old lent.entries c t in
        ap (past_entries (length parents)) (entries_are ∙ mended_rows lent.links parents search c a lent.entries)
        ∙ rows_past (made_at lent.links parents search c a lent.entries) (length parents)
        (made_size lent.links parents search c a lent.entries room) (past_entries (length parents) lent.entries)

    -- the link has the length and the mark named, and its ends; every other link is as it was
    pub changed-link : link_in after.links c.link ≡ changed_link (link_in lent.links c.link) c
    unfolding net_of
    changed-link =
        ap (λ (r : List ℕ). link_in r c.link) changed_row ∙ link_set lent.links c (allowed old lent.entries c t).there

    pub other_links : (e : ℕ) → (e ≡ c.link → ⊥) → link_in after.links e ≡ link_in lent.links e
    other_links e n = ap (λ (r : List ℕ). link_in r e) changed_row ∙ link_other lent.links c e (ne_eqb e c.link n)

taken_not : {A : Type 0} {r : Refusal} → taken ≡ Err r → A
taken_not q = absurd (subst code q tt)
  where
    code : Verdict → Type 0
    code (Ok _) = Unit {0}
    code (Err r) = ⊥

-- 13 and 9
module _ (links parents : List ℕ) (search : Search) (entries : List ℕ) (c : Change) where
  abbrev net : Net
  net = net_of links parents search

  abbrev changed_net : Net
  changed_net = net_of (set_link links c) parents search

  -- what stands before 13 in the order for a change
  abbrev pub before13 : Verdict
  before13 =
      firstly
      (table_verdict net entries ∷
      refuse_if (leb net.links c.link) LinkMissing 0 ∷
      refuse_if (bad_mark c.mark) BadMark c.link ∷
      refuse_if (is_parent net.parent net.nodes c.link) TreeLink c.link ∷ [])

  asked : before13 ≡ taken → Asked net c
  asked t =
      let t11 = rest-taken _ _ t in
      let t6 = rest-taken _ _ t11 in
      let t12 = rest-taken _ _ t6 in
      record {
        before = sound net (table_sound net entries taken (sym (head_taken _ _ t)) refl);
        there = leb-false net.links c.link (if_taken_lem _ LinkMissing 0 (head_taken _ _ t11));
        mark_ok = if_taken_lem _ BadMark c.link (head_taken _ _ t6);
        spare-ok = if_taken_lem _ TreeLink c.link (head_taken _ _ t12);
      }

  last_decides : before13 ≡ taken → change_verdict net entries c ≡ refuse_if (breaks net c) BreaksShort c.link
  unfolding change_verdict
  last_decides t =
      let t11 = rest-taken _ _ t in
      let t6 = rest-taken _ _ t11 in
      let t12 = rest-taken _ _ t6 in
      head_passes _ _ (head_taken _ _ t)
      ∙ (head_passes _ _ (head_taken _ _ t11)
      ∙ (head_passes _ _ (head_taken _ _ t6) ∙ (head_passes _ _ (head_taken _ _ t12) ∙ only_one _)))

  -- where nothing before it refuses, 13 is given, at the changed link, where the changed network would be refused by 9
  pub nine_thirteen :
      before13 ≡ taken → (e : ℕ) → net_verdict changed_net ≡ refused NotShort e → change_verdict net entries c ≡ refused BreaksShort c.link
  unfolding refuse_if
  nine_thirteen t e n = last_decides t ∙ go (breaks net c) refl
    where
      go : (b : Bool) → breaks net c ≡ b → refuse_if (breaks net c) BreaksShort c.link ≡ refused BreaksShort c.link
      go true q = rw q
      go false q = taken_not (sym (is_taken changed_net (unbroken_sound links parents search c (asked t) q)) ∙ n)

  -- and where 13 is given, nothing before it refuses and the changed network would be refused by 9, at that link
  pub thirteen_nine :
      (r : Refusal)
      → change_verdict net entries c ≡ Err r → number_of r.why ≡ 13
      → (before13 ≡ taken) × (net_verdict changed_net ≡ refused NotShort c.link)
  unfolding change_verdict number_of has
  thirteen_nine r h thirteen =
      let v10 = passed of_table _ _ r (table_gives net entries) (rw thirteen) h in
      let v11 = passed (11 ∷ []) _ _ r (if_gives (11 ∷ []) _ LinkMissing 0 refl) (rw thirteen) v10.1 in
      let v6 = passed (6 ∷ []) _ _ r (if_gives (6 ∷ []) _ BadMark c.link refl) (rw thirteen) v11.1 in
      let v12 = passed (12 ∷ []) _ _ r (if_gives (12 ∷ []) _ TreeLink c.link refl) (rw thirteen) v6.1 in
      let t : before13 ≡ taken =
      both_taken _ _ v10.0 (both_taken _ _ v11.0 (both_taken _ _ v6.0 (both_taken _ _ v12.0 none_left))) in
      (t, go t v12.1 (breaks net c) refl)
    where
      go :
          before13 ≡ taken
          → firstly (refuse_if (breaks net c) BreaksShort c.link ∷ []) ≡ Err r → (b : Bool) → breaks net c ≡ b
          → net_verdict changed_net ≡ refused NotShort c.link
      go t q true e = broken_refused links parents search c (asked t) e
      go t q false e = taken_not (sym (only_one _ ∙ if_passes _ BreaksShort c.link e) ∙ q)
