-- A whole search: the entries asked for begin as the root's or a bridge's, and then every link is offered. Assumes nothing.
use Rattle.std.proofs.Common.{◌≡◌, ℕ, suc, ◌+◌, ◌<◌, ◌≤◌, Bool, true, false, cond, eqb, ltb, List, length, sym, refl, ap, ◌∙◌, subst, arith, ltb-false}
use Rattle.std.proofs.Common.{ltb-true, le-ltb, lt-ltb, eqb-true}
use borrow.Author.Tests.{eqb-false}
use Rattle.edition.specs.declared.Search.{Search}
use Rattle.edition.specs.declared.Entry.{Entry}
use Rattle.edition.specs.Entries.{root_state, bridge_state, blank}
use Rattle.network.specs.Network.{Net, net_of, links_in}
use Rattle.table.proofs.Prefixes.{entry-start, entry-all}
use Rattle.entries.specs.Row.{entry_row, entries_in, standing, put_entry}
use Rattle.tree.specs.Tree.{tree_of}
use Rattle.sound.specs.Surveyed.{Surveyed}
use Rattle.table.specs.Table.{is_asked, fresh_at}
use Rattle.table.specs.Work.{Ranked, Entries, Searching, want, start_at, Linked, LinkedTo}
use Rattle.table.proofs.Slots.{entries_put}
use Rattle.table.proofs.Offering.{entries-same}

next : (k : ℕ) → suc k ≡ k + 1
next k = omega arith

-- a row as it stands
entries_stand : (n : ℕ) (row : List ℕ) → Entries n (standing row) row row
entries_stand n row = record { size = refl; each = λ x l. refl; rest = refl }

-- the first k nodes have one record, all others another
abbrev pub up_to_node : ℕ → (ℕ → List ℕ) → (ℕ → List ℕ) → ℕ → List ℕ
up_to_node k new old x = cond (ltb x k) (new x) (old x)

node-more : (k : ℕ) (new old : ℕ → List ℕ) (x : ℕ) → cond (eqb k x) (new k) (up_to_node k new old x) ≡ up_to_node (suc k) new old x
node-more k new old x = go (eqb k x) refl (ltb x k) refl
  where
    go : (a : Bool) → eqb k x ≡ a → (b : Bool) → ltb x k ≡ b → cond (eqb k x) (new k) (up_to_node k new old x) ≡ up_to_node (suc k) new old x
    go true p b q =
        let same = eqb-true k x p in
        rw (p, lt-ltb x (suc k) (omega (arith, same))) (ap new same)
    go false p true q = rw (p, q, lt-ltb x (suc k) (omega (arith, ltb-true x k q)))
    go false p false q = rw (p, q, le-ltb x (suc k) (omega (arith, ltb-false x k q, eqb-false k x p)))

unmarked_stands : (root : ℕ) (asked before : List ℕ) (x : ℕ) → is_asked asked x ≡ false → start_at root asked before x ≡ standing before x
unfolding start_at
unmarked_stands root asked before x e = rw e

marked_starts :
    (root : ℕ) (asked before : List ℕ) (x : ℕ)
    → is_asked asked x ≡ true → start_at root asked before x ≡ entry_row (blank (cond (eqb x root) root_state bridge_state))
unfolding start_at
marked_starts root asked before x e = rw e

module _ (root : ℕ) (asked before : List ℕ) (n : ℕ) where
  pub clear_start : Entries n (up_to_node 0 (start_at root asked before) (standing before)) before before
  clear_start = entries-same n (standing before) _ before before (λ x l. rw (le-ltb x 0 (omega arith))) (entries_stand n before)

  module _ (k : ℕ) (l : k < n) (room : n ≤ entries_in before) (row : List ℕ)
      (h : Entries n (up_to_node k (start_at root asked before) (standing before)) before row) where
    abbrev first : Entry
    first = blank (cond (eqb k root) root_state bridge_state)

    clear_none : is_asked asked k ≡ false → Entries n (up_to_node (suc k) (start_at root asked before) (standing before)) before row
    clear_none z =
        entries-same n _ _ before row (λ x j. kept x (eqb k x) refl ∙ node-more k (start_at root asked before) (standing before) x) h
      where
        kept :
            (x : ℕ) (b : Bool)
            → eqb k x ≡ b
            → up_to_node k (start_at root asked before) (standing before) x
            ≡ cond b (start_at root asked before k) (up_to_node k (start_at root asked before) (standing before) x)
        kept x true p =
            rw (le-ltb x k (omega (arith, eqb-true k x p)))
            (ap (standing before) (sym (eqb-true k x p)) ∙ sym (unmarked_stands root asked before k z))
        kept x false p = refl

    clear_one : is_asked asked k ≡ true → Entries n (up_to_node (suc k) (start_at root asked before) (standing before)) before (put_entry row k first)
    clear_one z =
        entries-same n _ _ before _
        (λ x j. ap (λ (r : List ℕ). cond (eqb k x) r (up_to_node k (start_at root asked before) (standing before) x))
        (sym (marked_starts root asked before k z))
        ∙ node-more k (start_at root asked before) (standing before) x)
        (entries_put n _ before row k first h l room)

    pub clear_more :
        (row' : List ℕ)
        → row' ≡ cond (is_asked asked k) (put_entry row k (blank (cond (eqb k root) root_state bridge_state))) row
        → Entries n (up_to_node (k + 1) (start_at root asked before) (standing before)) before row'
    clear_more row' u =
        subst (λ (j : ℕ). Entries n (up_to_node j (start_at root asked before) (standing before)) before row') (next k)
        (go (is_asked asked k) refl)
      where
        go : (b : Bool) → is_asked asked k ≡ b → Entries n (up_to_node (suc k) (start_at root asked before) (standing before)) before row'
        go true z = rw (u, z) (clear_one z)
        go false z = rw (u, z) (clear_none z)

  pub clear_end :
      (k : ℕ)
      → n ≤ k → (row : List ℕ) → Entries n (up_to_node k (start_at root asked before) (standing before)) before row
      → Entries n (start_at root asked before) before row
  clear_end k l row h = entries-same n _ _ before row (λ x m. rw (lt-ltb x k (omega (arith, l, m)))) h

-- before any link
pub start-want : (g : Net) (asked before : List ℕ) (x : ℕ) → start_at g.search.root asked before x ≡ want g asked before 0 x
unfolding start_at want
start-want g asked before x = rw (entry-start g x)

-- link after link
pub to_none : (g : Net) (n : ℕ) (asked row : List ℕ) → LinkedTo g n asked 0 row row
to_none g n asked row = record { size = refl; goes_on = λ before h. h }

pub to_more :
    (g : Net) (n : ℕ) (asked : List ℕ) (k : ℕ) (row row' row'' : List ℕ)
    → LinkedTo g n asked k row row' → length row'' ≡ length row' → Linked g n asked k row' row''
    → LinkedTo g n asked (k + 1) row row''
to_more g n asked k row row' row'' i z l =
    subst (λ (j : ℕ). LinkedTo g n asked j row row'') (next k)
    (record { size = z ∙ i.size; goes_on = λ before h. l.goes_on before (i.goes_on before h) })

pub to_all : (g : Net) (n : ℕ) (asked : List ℕ) (k m : ℕ) (row row' : List ℕ) → k ≡ m → LinkedTo g n asked k row row' → LinkedTo g n asked m row row'
to_all g n asked k m row row' q i = subst (λ (j : ℕ). LinkedTo g n asked j row row') q i

-- a search from the cleared entries
module _ (links parents : List ℕ) (search : Search) where
  pub fresh_end :
      (asked before row row' : List ℕ)
      → Entries (length parents) (start_at search.root asked before) before row
      → LinkedTo (net_of links parents search) (net_of links parents search).nodes asked (links_in links) row row'
      → Entries (length parents) (fresh_at (net_of links parents search) asked before) before row'
  unfolding net_of fresh_at want
  fresh_end asked before row row' h l =
      entries-same _ _ _ before row' (λ x m. rw (entry-all (net_of links parents search) x))
      (l.goes_on before (entries-same _ _ _ before row (λ x m. start-want (net_of links parents search) asked before x) h))

-- what a search goes by stays while entries are written
pub still-searching :
    {g : Net} {asked survey ranks row row' : List ℕ} {n k : ℕ}
    → Searching g asked survey ranks row → LinkedTo g n asked k row row' → Searching g asked survey ranks row'
still-searching h l =
    record { surveyed = h.surveyed; ranked = h.ranked; room = omega (arith, h.room, l.size) }

pub searching-start :
    (links parents : List ℕ) (search : Search) {asked survey ranks before row : List ℕ} {f : ℕ → List ℕ}
    → Surveyed (net_of links parents search) survey → Ranked (tree_of (net_of links parents search)) asked ranks
    → length parents ≤ entries_in before → Entries (length parents) f before row
    → Searching (net_of links parents search) asked survey ranks row
unfolding net_of
searching-start links parents search s a l h =
    record { surveyed = s; ranked = a; room = omega (arith, h.size) }
