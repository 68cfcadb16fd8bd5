-- The change of one link: its refusals in order, the new row of links, and the entries that are worked out afresh.
-- Assumes nothing.
use Rattle.std.specs.Prelude.{Bool, cond, not, ◌&&◌, List, [], ◌∷◌, ◌++◌, ℕ, eqb, leb}
use Rattle.edition.specs.declared.Search.{Search}
use Rattle.edition.specs.declared.Change.{Change}
use Rattle.edition.specs.Refusals.{Verdict, if_taken}
use Rattle.edition.specs.declared.Why.TheVariants.{LinkMissing, BadMark, TreeLink, BreaksShort}
use Rattle.edition.specs.Limits.{served}
use Rattle.rows.specs.Count.{rows_to}
use Rattle.rows.specs.First.{refuse_if, firstly}
use Rattle.network.specs.declared.Link.{Link}
use Rattle.network.specs.Network.{Net, net_of, link_in, put_link, is_parent}
use Rattle.network.specs.Records.{bad_mark}
use Rattle.tree.specs.Tree.{tree_of, on_path}
use Rattle.sound.specs.Sound.{short}
use Rattle.swap.specs.Entry.{entry}
use Rattle.entries.specs.Row.{entry_row, standing, past_entries}
use Rattle.table.specs.Table.{table_verdict}

-- 13: the change sets a link in service and breaks one of the two inequalities for the new length. Withdrawing needs none.
unfoldable pub breaks : Net → Change → Bool
breaks g c =
    let l = g.link c.link in
    eqb c.mark served && not (short (tree_of g) l.first l.second c.length)

-- 1 to 4, 14, 5 to 10, 11, 6 with the changed link as its place, 12, 13.
unfoldable pub change_verdict : Net → List ℕ → Change → Verdict
change_verdict g entries c =
    firstly
    (table_verdict g entries ∷
    refuse_if (leb g.links c.link) LinkMissing 0 ∷
    refuse_if (bad_mark c.mark) BadMark c.link ∷
    refuse_if (is_parent g.parent g.nodes c.link) TreeLink c.link ∷
    refuse_if (breaks g c) BreaksShort c.link ∷ [])

-- A link with the length and the service mark that a change names, and all else as it was.
abbrev pub changed_link : Link → Change → Link
changed_link l c = record { first = l.first; second = l.second; length = c.length; mark = c.mark }

-- The row of links with that link's record so changed.
unfoldable pub set_link : List ℕ → Change → List ℕ
set_link links c = put_link links c.link (changed_link (link_in links c.link) c)

-- The record of x after a change between the ends a and b: worked out in the new network where the tree link of x lies on the
-- tree path between the ends, and as it stands elsewhere.
unfoldable pub mended_at : Net → Net → Link → List ℕ → ℕ → List ℕ
mended_at old new l entries x =
    let fresh = entry_row (entry new x) in
    cond (on_path (tree_of old) l.first l.second x) fresh (standing entries x)

-- The row of entries so mended, and the room past them as it stands.
unfoldable pub mended : Net → Net → ℕ → List ℕ → List ℕ
mended old new e entries =
    rows_to (mended_at old new (old.link e) entries) old.nodes ++ past_entries old.nodes entries

-- What is lent to a change, and what it leaves: the row of links and the row of entries.
pub record Lent : Type 0 where
  pub links : List ℕ
  pub entries : List ℕ

-- What a change leaves, with the row of parents and the numbers named: nothing changed where it is refused.
unfoldable pub changed : List ℕ → Search → Change → Lent → Lent
changed parents search c lent =
    let old = net_of lent.links parents search in
    let links = set_link lent.links c in
    let after : Lent = record { links = links; entries = mended old (net_of links parents search) c.link lent.entries } in
    if_taken (change_verdict old lent.entries c) after lent

-- What a list of changes leaves, one after the other.
unfoldable pub changed_by : List ℕ → Search → List Change → Lent → Lent
changed_by parents search [] lent = lent
changed_by parents search (c ∷ cs) lent = changed_by parents search cs (changed parents search c lent)
