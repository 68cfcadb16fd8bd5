-- Two changes of different links, where both are taken in both orders, give the same network and table in either order, whatever
-- the lent table held. Assumes nothing.
use mathlib.Core.Path.{◌≡◌, refl, sym, subst, ap, ap₂, ◌∙◌}
use mathlib.Core.Bool.{Bool, true, false, cond, ◌||◌}
use mathlib.Core.List.{List, ◌++◌}
use Prim.Native.Nat.{ℕ, ◌<◌, ◌≤◌}
use lib.ListN.{length}
use borrow.Author.Tests.{ne_eqb}
use Rattle.edition.specs.declared.Change.{Change}
use Rattle.edition.specs.declared.Search.{Search}
use Rattle.edition.specs.Refusals.{taken}
use Rattle.rows.specs.Count.{rows_to}
use Rattle.rows.proofs.Tests.{or_swap}
use Rattle.rows.proofs.Records.{rows_cong}
use Rattle.entries.specs.Row.{entry_row, entries_in, standing, past_entries}
use Rattle.entries.proofs.Keeping.{rows_past}
use Rattle.network.specs.declared.Link.{Link}
use Rattle.network.specs.Network.{Net, link_in, net_of}
use Rattle.tree.specs.Tree.{Tree, tree_of, on_path}
use Rattle.swap.specs.Entry.{entry}
use Rattle.table.proofs.Whole.{table-room}
use Rattle.rows.proofs.Refusing.{head_taken}
use Rattle.change.specs.Change.{change_verdict, set_link, mended, Lent, changed}
use Rattle.change.proofs.Setting.{link_other, sets_agree}
use Rattle.change.proofs.Staying.{Allowed, allowed, kept_tree}
use Rattle.change.proofs.Mending.{on_way, made_at, made_size, mended_rows, mended_at_lem, entry_kept}

module _ (links parents : List ℕ) (search : Search) where
  abbrev g : Net
  g = net_of links parents search

  module _ (entries : List ℕ) (room : length parents ≤ entries_in entries) where
    -- does the tree link of x lie on the path between the ends of the link that is changed?
    unfoldable way_of : Change → ℕ → Bool
    way_of c x = on_path (tree_of g) (link_in links c.link).first (link_in links c.link).second x

    -- what both changes make of each record
    unfoldable both_at : Change → Change → List ℕ → ℕ → List ℕ
    both_at c d after x = cond (way_of c x || way_of d x) (entry_row (entry (net_of after parents search) x)) (standing entries x)

    module _ (c d : Change) (n : c.link ≡ d.link → ⊥) (a : Allowed g c) (b : Allowed (net_of (set_link links c) parents search) d) where
      unfoldable middle : List ℕ
      middle = mended g (net_of (set_link links c) parents search) c.link entries

      other_way : (x : ℕ) → on_way (set_link links c) parents search d b x ≡ way_of d x
      unfolding on_way way_of
      other_way x =
          subst
          (λ (t : Tree). on_path t (link_in (set_link links c) d.link).first
          (link_in (set_link links c) d.link).second x
          ≡ on_path (tree_of g) (link_in links d.link).first
          (link_in links d.link).second x)
          (sym (kept_tree links parents search c a))
          (ap (λ (l : Link). on_path (tree_of g) l.first l.second x)
          (link_other links c d.link (ne_eqb d.link c.link (λ e. n (sym e)))))

      middle_at :
          (x : ℕ)
          → x < length parents
          → standing middle x
          ≡ cond (way_of c x) (entry_row (entry (net_of (set_link links c) parents search) x)) (standing entries x)
      unfolding middle made_at on_way way_of
      middle_at x l = mended_at_lem links parents search c a entries room x l

      both_is : (x : ℕ) → x < length parents → made_at (set_link links c) parents search d b middle x ≡ both_at c d (set_link (set_link links c) d) x
      unfolding made_at both_at
      both_is x l = go (way_of d x) (way_of c x) refl refl
        where
          go :
              (p q : Bool)
              → way_of d x ≡ p → way_of c x ≡ q
              → cond (on_way (set_link links c) parents search d b x)
              (entry_row (entry (net_of (set_link (set_link links c) d) parents search) x)) (standing middle x)
              ≡ cond (way_of c x || way_of d x) (entry_row (entry (net_of (set_link (set_link links c) d) parents search) x))
              (standing entries x)
          go true true e f = rw (other_way x, e, f)
          go true false e f = rw (other_way x, e, f)
          go false true e f =
              rw (other_way x, e, middle_at x l, f) (ap entry_row (sym (entry_kept (set_link links c) parents search d b x (other_way x ∙ e))))
          go false false e f = rw (other_way x, e, middle_at x l, f)

      past : past_entries (length parents) middle ≡ past_entries (length parents) entries
      unfolding middle
      past =
          ap (past_entries (length parents)) (mended_rows links parents search c a entries)
          ∙ rows_past (made_at links parents search c a entries) (length parents)
          (made_size links parents search c a entries room) (past_entries (length parents) entries)

      both_rows :
          mended (net_of (set_link links c) parents search) (net_of (set_link (set_link links c) d) parents search) d.link
          middle
          ≡ rows_to (both_at c d (set_link (set_link links c) d)) (length parents) ++ past_entries (length parents) entries
      both_rows =
          mended_rows (set_link links c) parents search d b middle
          ∙ ap₂ (λ (r s : List ℕ). r ++ s) (rows_cong _ _ (length parents) both_is) past

    -- the two changes may change places
    tables_agree :
        (c d : Change)
        → (c.link ≡ d.link → ⊥)
        → (ac : Allowed g c) (bd : Allowed (net_of (set_link links c) parents search) d)
        (ad : Allowed g d) (bc : Allowed (net_of (set_link links d) parents search) c)
        → mended (net_of (set_link links c) parents search) (net_of (set_link (set_link links c) d) parents search) d.link
        (mended g (net_of (set_link links c) parents search) c.link entries)
        ≡ mended (net_of (set_link links d) parents search) (net_of (set_link (set_link links d) c) parents search) c.link
        (mended g (net_of (set_link links d) parents search) d.link entries)
    unfolding middle both_at
    tables_agree c d n ac bd ad bc =
        both_rows c d n ac bd
        ∙ (ap (λ (r : List ℕ). r ++ past_entries (length parents) entries)
        (rows_cong _ _ (length parents)
        (λ x l.
        ap₂ (λ (k : List ℕ) (w : Bool). cond w (entry_row (entry (net_of k parents search) x)) (standing entries x))
        (sets_agree links c d n) (or_swap (way_of c x) (way_of d x))))
        ∙ sym (both_rows d c (λ e. n (sym e)) ad bc))

-- a change that is taken, in the words of the contract
module _ (parents : List ℕ) (search : Search) where
  pub Takes : Change → Lent → Type 0
  Takes c lent = change_verdict (net_of lent.links parents search) lent.entries c ≡ taken

  after : Change → Lent → Lent
  after c lent =
      record {
        links = set_link lent.links c;
        entries = mended (net_of lent.links parents search) (net_of (set_link lent.links c) parents search) c.link lent.entries;
      }

  changed-is : (c : Change) (lent : Lent) → Takes c lent → changed parents search c lent ≡ after c lent
  unfolding changed after Takes
  changed-is c lent t = rw t

  room-is : (c : Change) (lent : Lent) → Takes c lent → length parents ≤ entries_in lent.entries
  unfolding Takes change_verdict net_of
  room-is c lent t = table-room (net_of lent.links parents search) lent.entries taken (sym (head_taken _ _ t)) refl

  may : (c : Change) (lent : Lent) → Takes c lent → Allowed (net_of lent.links parents search) c
  unfolding Takes
  may c lent t = allowed (net_of lent.links parents search) lent.entries c t

  both_same :
      (c d : Change) (lent : Lent)
      → (c.link ≡ d.link → ⊥) → length parents ≤ entries_in lent.entries
      → Allowed (net_of lent.links parents search) c → Allowed (net_of (after c lent).links parents search) d
      → Allowed (net_of lent.links parents search) d → Allowed (net_of (after d lent).links parents search) c
      → after d (after c lent) ≡ after c (after d lent)
  unfolding after
  both_same c d lent n room ac bd ad bc =
      λ i.
      record {
        links = sets_agree lent.links c d n i;
        entries = tables_agree lent.links parents search lent.entries room c d n ac bd ad bc i;
      }

  -- two changes of different links do the same in either order
  pub orders_agree :
      (c d : Change) (lent : Lent)
      → (c.link ≡ d.link → ⊥) → Takes c lent → Takes d (changed parents search c lent) → Takes d lent
      → Takes c (changed parents search d lent)
      → changed parents search d (changed parents search c lent)
      ≡ changed parents search c (changed parents search d lent)
  orders_agree c d lent n tc td ud uc =
      ap (changed parents search d) (changed-is c lent tc)
      ∙ (changed-is d (after c lent) second
      ∙ (same
      ∙ (sym (changed-is c (after d lent) first) ∙ sym (ap (changed parents search c) (changed-is d lent ud)))))
    where
      second : Takes d (after c lent)
      second = subst (Takes d) (changed-is c lent tc) td

      first : Takes c (after d lent)
      first = subst (Takes c) (changed-is d lent ud) uc

      same : after d (after c lent) ≡ after c (after d lent)
      same = both_same c d lent n (room-is c lent tc) (may c lent tc) (may d (after c lent) second) (may d lent ud) (may c (after d lent) first)
