-- The verdict of a change as a chain of checks, and what its application leaves. Assumes nothing.
use Rattle.std.specs.Prelude.{Err}
use mathlib.Core.Path.{◌≡◌, refl, sym, ap, ◌∙◌}
use mathlib.Core.Bool.{Bool}
use mathlib.Core.List.{List, ◌++◌}
use Prim.Native.Nat.{ℕ, ◌<◌, ◌≤◌}
use native.Mathlib.Omega.{arith}
use lib.Dec.{leb}
use lib.ListN.{length, get_or, replicate, length-replicate}
use borrow.Author.Tests.{leb-false}
use Rattle.edition.specs.declared.Change.{Change}
use Rattle.edition.specs.declared.Refusal.{Refusal}
use Rattle.edition.specs.declared.Search.{Search}
use Rattle.edition.specs.Refusals.{Verdict, taken}
use Rattle.edition.specs.declared.Why.TheVariants.{LinkMissing, BadMark, TreeLink, BreaksShort}
use Rattle.edition.specs.Limits.{node_limit, no_link}
use Rattle.entries.specs.Row.{entries_in, past_entries}
use Rattle.rows.specs.Count.{rows_to}
use Rattle.rows.specs.First.{refuse_if}
use Rattle.rows.specs.Lists.{differ}
use Rattle.rows.proofs.Records.{rows_cong}
use Rattle.rows.proofs.Refusing.{head_taken, head_refuses, head_passes, if_taken_lem, only_one}
use Rattle.network.specs.declared.Link.{Link}
use Rattle.network.specs.Network.{Net, links_in, link_in, net_of, is_parent}
use Rattle.network.specs.Records.{bad_mark}
use Rattle.tree.specs.Tree.{tree_of, under}
use Rattle.sound.specs.Sound.{net_verdict}
use Rattle.sound.specs.Surveyed.{Surveyed}
use Rattle.sound.proofs.Sounds.{taken as is_taken}
use Rattle.sound.proofs.Holding.{nodes-few, root_in, first_in, second_in, link_path}
use Rattle.table.specs.Table.{is_asked, fresh_at, table_verdict}
use Rattle.table.proofs.Whole.{table-room}
use Rattle.change.specs.Change.{breaks, change_verdict, set_link, mended, changed}
use Rattle.change.specs.Work.{Moved, flip}
use Rattle.change.proofs.Staying.{Allowed, allowed, kept_tree, still_sound}
use Rattle.change.proofs.Mending.{on_way, made_at, mended_rows}
use Rattle.change.proofs.Flipping.{turned_twice}

module _ (links parents : List ℕ) (search : Search) where
  abbrev g : Net
  g = net_of links parents search

  -- the order of the checks
  module _ (entries : List ℕ) (c : Change) (v : Verdict) (is : v ≡ table_verdict g entries) where
    pub first_refuses : (r : Refusal) → v ≡ Err r → v ≡ change_verdict g entries c
    unfolding change_verdict
    first_refuses r t = t ∙ sym (head_refuses _ _ r (sym is ∙ t))

    module _ (ok : v ≡ taken) (m : ℕ) (count : m ≡ links_in links) (w : Verdict) (wis : w ≡ refuse_if (leb m c.link) LinkMissing 0) where
      second : w ≡ refuse_if (leb g.links c.link) LinkMissing 0
      unfolding net_of
      second = wis ∙ ap (λ k. refuse_if (leb k c.link) LinkMissing 0) count

      pub second_refuses : (r : Refusal) → w ≡ Err r → w ≡ change_verdict g entries c
      unfolding change_verdict
      second_refuses r t = t ∙ sym (head_passes _ _ (sym is ∙ ok) ∙ head_refuses _ _ r (sym second ∙ t))

      module _ (there : w ≡ taken) (b : Bool) (mark : b ≡ bad_mark c.mark) (x : Verdict) (xis : x ≡ refuse_if b BadMark c.link) where
        third : x ≡ refuse_if (bad_mark c.mark) BadMark c.link
        third = xis ∙ ap (λ k. refuse_if k BadMark c.link) mark

        pub third_refuses : (r : Refusal) → x ≡ Err r → x ≡ change_verdict g entries c
        unfolding change_verdict
        third_refuses r t =
            t ∙ sym (head_passes _ _ (sym is ∙ ok) ∙ (head_passes _ _ (sym second ∙ there) ∙ head_refuses _ _ r (sym third ∙ t)))

        pub link-there : c.link < links_in links
        link-there =
            leb-false (links_in links) c.link
            (if_taken_lem _ LinkMissing 0
            (ap (λ k. refuse_if (leb k c.link) LinkMissing 0) (sym count) ∙ (sym wis ∙ there)))

        module _ (serves : x ≡ taken) (p : Bool)
            (named : p ≡ is_parent (λ u. get_or parents u no_link) (length parents) c.link) (y : Verdict)
            (yis : y ≡ refuse_if p TreeLink c.link) where
          fourth : y ≡ refuse_if (is_parent g.parent g.nodes c.link) TreeLink c.link
          unfolding net_of
          fourth = yis ∙ ap (λ k. refuse_if k TreeLink c.link) named

          pub fourth_refuses : (r : Refusal) → y ≡ Err r → y ≡ change_verdict g entries c
          unfolding change_verdict
          fourth_refuses r t =
              t
              ∙ sym
              (head_passes _ _ (sym is ∙ ok)
              ∙ (head_passes _ _ (sym second ∙ there) ∙ (head_passes _ _ (sym third ∙ serves) ∙ head_refuses _ _ r (sym fourth ∙ t))))

          pub fifth_decides :
              y ≡ taken
              → (s : Bool) → s ≡ breaks g c → (z : Verdict)
              → z ≡ refuse_if s BreaksShort c.link → z ≡ change_verdict g entries c
          unfolding change_verdict
          fifth_decides spare s short z zis =
              zis
              ∙ (ap (λ k. refuse_if k BreaksShort c.link) short
              ∙ sym
              (head_passes _ _ (sym is ∙ ok)
              ∙ (head_passes _ _ (sym second ∙ there)
              ∙ (head_passes _ _ (sym third ∙ serves) ∙ (head_passes _ _ (sym fourth ∙ spare) ∙ only_one _)))))

  -- the application of a change that is taken
  module _ (entries : List ℕ) (c : Change) (t : change_verdict g entries c ≡ taken) where
    a : Allowed g c
    a = allowed g entries c t

    table_taken : table_verdict g entries ≡ taken
    unfolding change_verdict
    table_taken = head_taken _ _ t

    pub apply_sound : net_verdict g ≡ taken
    apply_sound = is_taken g a.before

    few : length parents ≤ node_limit
    unfolding net_of
    few = nodes-few g a.before

    pub root-node : search.root < length parents
    unfolding net_of
    root-node = root_in g a.before

    pub asked_room : length parents ≤ length (replicate {A = ℕ} node_limit 0)
    asked_room = omega (arith, few, length-replicate {A = ℕ} node_limit 0)

    module _ (l : Link) (is : l ≡ link_in links c.link) where
      pub first-node : l.first < length parents
      unfolding net_of
      first-node = rw is (first_in g a.before c.link a.there)

      pub second_node : l.second < length parents
      unfolding net_of
      second_node = rw is (second_in g a.before c.link a.there)

      module _ (one : List ℕ) (climb : Moved (λ x. under (tree_of g) x l.first) flip (replicate {A = ℕ} node_limit 0) one) where
        pub asked_still : length parents ≤ length one
        asked_still = omega (arith, asked_room, climb.size)

        module _ (asked : List ℕ) (other : Moved (λ x. under (tree_of g) x l.second) flip one asked) where
          marked-is : (x : ℕ) → x < length parents → is_asked asked x ≡ on_way links parents search c a x
          unfolding on_way net_of
          marked-is x m =
              turned_twice _ _ one asked climb other x (omega (arith, m, few))
              ∙ (ap
              (λ (k : Link). differ (under (tree_of g) x k.first)
              (under (tree_of g) x k.second)) is
              ∙ sym (link_path g a.before c.link x a.there))

          made_same :
              (x : ℕ)
              → is_asked asked x ≡ on_way links parents search c a x
              → fresh_at (net_of (set_link links c) parents search) asked entries x
              ≡ made_at links parents search c a entries x
          unfolding fresh_at made_at
          made_same x w = rw w

          pub apply_is :
              (links' : List ℕ)
              → links' ≡ set_link links c → (entries' : List ℕ)
              → entries'
              ≡ rows_to (fresh_at (net_of links' parents search) asked entries) (length parents) ++ past_entries (length parents) entries
              → (links' ≡ set_link links c)
              × (entries' ≡ mended g (net_of (set_link links c) parents search) c.link entries)
          apply_is links' q entries' e = (
            q,
            e
                ∙ (ap
                (λ (k : List ℕ). rows_to (fresh_at (net_of k parents search) asked entries) (length parents) ++ past_entries (length parents) entries)
                q
                ∙ (ap (λ (r : List ℕ). r ++ past_entries (length parents) entries) (rows_cong _ _ (length parents) same)
                ∙ sym (mended_rows links parents search c a entries))),
          )
            where
              same :
                  (x : ℕ)
                  → x < length parents
                  → fresh_at (net_of (set_link links c) parents search) asked entries x
                  ≡ made_at links parents search c a entries x
              same x m = made_same x (marked-is x m)

    pub apply_room : length parents ≤ entries_in entries
    unfolding net_of
    apply_room = table-room g entries taken (sym table_taken) refl

    -- the survey of the network is that of the changed one
    pub still-surveyed :
        (survey : List ℕ) → Surveyed g survey → (links' : List ℕ) → links' ≡ set_link links c → Surveyed (net_of links' parents search) survey
    unfolding net_of
    still-surveyed survey s links' q =
        rw q
        (record {
          is_taken = is_taken (net_of (set_link links c) parents search) (still_sound links parents search c a);
          few = λ u. rw (kept_tree links parents search c a) (s.few u);
          room = s.room;
          each = λ x l. rw (kept_tree links parents search c a) (s.each x l);
        })

  -- the change, one after the other
  module _ (entries : List ℕ) (c : Change) (v : Verdict) (is : v ≡ change_verdict g entries c) where
    pub change-refused :
        (r : Refusal)
        → v ≡ Err r
        → (v ≡ change_verdict g entries c)
        × (links ≡ (changed parents search c (record { links = links; entries = entries })).links)
        × (entries ≡ (changed parents search c (record { links = links; entries = entries })).entries)
    unfolding changed
    change-refused r t = (is, rw (← is, t), rw (← is, t))

    pub change-taken :
        v ≡ taken
        → (links' entries' : List ℕ) → links' ≡ set_link links c
        → entries' ≡ mended g (net_of (set_link links c) parents search) c.link entries
        → (taken ≡ change_verdict g entries c)
        × (links' ≡ (changed parents search c (record { links = links; entries = entries })).links)
        × (entries' ≡ (changed parents search c (record { links = links; entries = entries })).entries)
    unfolding changed
    change-taken t links' entries' p q = (sym t ∙ is, rw (← is, t) p, rw (← is, t) q)
