-- Demand 3 for one change: entries off the path are what they were, those on it are worked out afresh, and a table that was right
-- is right. Assumes nothing.
use mathlib.Core.Path.{◌≡◌, refl, sym, subst, ap, ap₂, ◌∙◌}
use mathlib.Core.Bool.{Bool, true, false, cond, not, ◌&&◌}
use mathlib.Core.List.{List, ◌++◌}
use Prim.Native.Nat.{ℕ, ◌<◌, ◌≤◌}
use native.Mathlib.Omega.{arith}
use lib.Dec.{eqb}
use lib.ListN.{length}
use borrow.Author.Tests.{eqb-true}
use Rattle.edition.specs.declared.Change.{Change}
use Rattle.edition.specs.declared.Search.{Search}
use Rattle.rows.specs.Count.{rows_to}
use Rattle.rows.specs.Lists.{differ}
use Rattle.rows.proofs.Tests.{and_none}
use Rattle.rows.proofs.Records.{rows_cong}
use Rattle.entries.specs.Row.{entry_row, entries_in, standing, past_entries}
use Rattle.entries.proofs.Keeping.{Sized, entry-sized, standing-sized, rows_past, rows_standing}
use Rattle.network.specs.declared.Link.{Link}
use Rattle.network.specs.Network.{Net, links_in, link_in, net_of, in_service}
use Rattle.tree.specs.Tree.{Tree, tree_of, under, on_path}
use Rattle.sound.proofs.Holding.{link_path}
use Rattle.swap.specs.Swap.{crosses}
use Rattle.swap.specs.Entry.{entry}
use Rattle.table.specs.Table.{table}
use Rattle.change.specs.Change.{changed_link, set_link, mended_at, mended}
use Rattle.change.proofs.Alike.{Alike, same, neither, SameFor, entry-same}
use Rattle.change.proofs.Setting.{count_same, link_other, link_set}
use Rattle.change.proofs.Staying.{Allowed, kept_tree}

-- a link that has both ends in T(x), or neither, does not cross x, whatever its length and mark
no-cross : (t : Tree) (x k : ℕ) (l : Link) → differ (under t x l.first) (under t x l.second) ≡ false → crosses t x k l ≡ false
unfolding crosses
no-cross t x k l h = rw h (and_none (in_service l && not (eqb k (t.link x))))

module _ (links parents : List ℕ) (search : Search) where
  abbrev g : Net
  g = net_of links parents search

  module _ (c : Change) (a : Allowed g c) where
    -- does the tree link of x lie on the path between the ends of the changed link?
    unfoldable pub on_way : ℕ → Bool
    on_way x = on_path (tree_of g) (link_in links c.link).first (link_in links c.link).second x

    there : c.link < links_in links
    unfolding net_of
    there = a.there

    off_differs :
        (x : ℕ)
        → on_way x ≡ false
        → differ (under (tree_of g) x (link_in links c.link).first)
        (under (tree_of g) x (link_in links c.link).second)
        ≡ false
    unfolding net_of on_way
    off_differs x h = sym (link_path g a.before c.link x a.there) ∙ h

    off_alike : (x : ℕ) → on_way x ≡ false → SameFor x g (net_of (set_link links c) parents search)
    unfolding net_of
    off_alike x h =
        record {
          tree = kept_tree links parents search c a;
          count = count_same links c;
          search = refl;
          link = λ k. go k (eqb k c.link) refl;
        }
      where
        old : crosses (tree_of g) x c.link (link_in links c.link) ≡ false
        old = no-cross _ x c.link (link_in links c.link) (off_differs x h)

        new : crosses (tree_of (net_of (set_link links c) parents search)) x c.link (link_in (set_link links c) c.link) ≡ false
        new =
            subst (λ (t : Tree). crosses t x c.link (link_in (set_link links c) c.link) ≡ false) (sym (kept_tree links parents search c a))
            (subst (λ (l : Link). crosses (tree_of g) x c.link l ≡ false) (sym (link_set links c there))
            (no-cross _ x c.link (changed_link (link_in links c.link) c) (off_differs x h)))

        go : (k : ℕ) (b : Bool) → eqb k c.link ≡ b → Alike x g (net_of (set_link links c) parents search) k
        go k false q = same (link_other links c k q)
        go k true q =
            subst (λ j. Alike x g (net_of (set_link links c) parents search) j) (sym (eqb-true k c.link q))
            (neither new old)

    -- each entry off the path is what it was
    pub entry_kept : (x : ℕ) → on_way x ≡ false → entry (net_of (set_link links c) parents search) x ≡ entry g x
    entry_kept x h = entry-same x g (net_of (set_link links c) parents search) (off_alike x h)

    -- what a change makes of each record, whatever the lent table held
    unfoldable pub made_at : List ℕ → ℕ → List ℕ
    made_at entries x = cond (on_way x) (entry_row (entry (net_of (set_link links c) parents search) x)) (standing entries x)

    pub mended_rows :
        (entries : List ℕ)
        → mended g (net_of (set_link links c) parents search) c.link entries
        ≡ rows_to (made_at entries) (length parents) ++ past_entries (length parents) entries
    unfolding mended mended_at net_of made_at on_way
    mended_rows entries = refl

    module _ (entries : List ℕ) (room : length parents ≤ entries_in entries) where
      pub made_size : (x : ℕ) → x < length parents → Sized (made_at entries x)
      unfolding made_at
      made_size x l = go (on_way x) refl
        where
          go : (b : Bool) → on_way x ≡ b → Sized (made_at entries x)
          go true h = rw h (entry-sized (entry (net_of (set_link links c) parents search) x))
          go false h = rw h (standing-sized entries x (omega (arith, l, room)))

      pub mended_at_lem :
          (x : ℕ)
          → x < length parents
          → standing (mended g (net_of (set_link links c) parents search) c.link entries) x
          ≡ made_at entries x
      mended_at_lem x l =
          ap (λ (r : List ℕ). standing r x) (mended_rows entries)
          ∙ rows_standing (made_at entries) (length parents) made_size (past_entries (length parents) entries) x l

      -- each entry on the path is the fresh one, also where the lent table was wrong
      pub on_path_fresh :
          (x : ℕ)
          → x < length parents → on_way x ≡ true
          → standing (mended g (net_of (set_link links c) parents search) c.link entries) x
          ≡ entry_row (entry (net_of (set_link links c) parents search) x)
      unfolding made_at
      on_path_fresh x l h = mended_at_lem x l ∙ rw h

      -- each entry off the path stands as it stood
      pub off_path_kept :
          (x : ℕ)
          → x < length parents → on_way x ≡ false
          → standing (mended g (net_of (set_link links c) parents search) c.link entries) x
          ≡ standing entries x
      unfolding made_at
      off_path_kept x l h = mended_at_lem x l ∙ rw h

    -- a right table is right after the change, and what lay past it stays
    pub mended-right :
        (rest : List ℕ)
        → mended g (net_of (set_link links c) parents search) c.link
        (table g ++ rest)
        ≡ table (net_of (set_link links c) parents search) ++ rest
    unfolding table net_of made_at
    mended-right rest =
        mended_rows (table g ++ rest)
        ∙ ap₂ (λ (r s : List ℕ). r ++ s) (rows_cong _ _ (length parents) (λ x l. go x l (on_way x) refl)) past
      where
        past : past_entries (length parents) (table g ++ rest) ≡ rest
        past = rows_past (λ x. entry_row (entry g x)) (length parents) (λ x l. entry-sized (entry g x)) rest

        go :
            (x : ℕ)
            → x < length parents → (b : Bool) → on_way x ≡ b
            → made_at (table g ++ rest) x
            ≡ entry_row (entry (net_of (set_link links c) parents search) x)
        go x l true h = rw h
        go x l false h =
            rw h
            (rows_standing (λ y. entry_row (entry g y)) (length parents)
            (λ y m. entry-sized (entry g y)) rest x l
            ∙ ap entry_row (sym (entry_kept x h)))
