-- What is known of a file that is accepted, and what the reader leaves in the lent rows. Assumes nothing.
use Rattle.std.specs.Prelude.{Err, Ok}
use mathlib.Core.Path.{◌≡◌, refl, ap, ◌∙◌}
use mathlib.Core.Bool.{false}
use mathlib.Core.List.{List, [], ◌++◌}
use Prim.Native.Nat.{ℕ, ◌<◌, ◌≤◌}
use native.Mathlib.Omega.{arith}
use lib.Dec.{ltb}
use lib.ListN.{length, drop}
use borrow.Author.Tests.{ltb-false}
use Rattle.edition.specs.declared.Refusal.{Refusal}
use Rattle.edition.specs.Refusals.{Verdict, taken}
use Rattle.edition.specs.declared.Why.TheVariants.{NoRoom}
use Rattle.rows.proofs.Refusing.{head_taken, rest-taken, if_taken_lem}
use Rattle.rows.proofs.Tests.{or3_false}
use Rattle.entries.specs.Row.{entries_in, entry_at, past_entries}
use Rattle.network.specs.Network.{links_in, past_links}
use Rattle.sound.specs.Sound.{net_verdict}
use Rattle.sound.proofs.Sounds.{sound}
use Rattle.sound.proofs.Holding.{root_in}
use Rattle.swap.specs.Entry.{entry}
use Rattle.table.specs.Table.{table}
use Rattle.table.proofs.Whole.{table-entry}
use Rattle.archive.specs.declared.Header.{Header}
use Rattle.archive.specs.Reader.{nodes_read, links_read, head_read, links_held, parents_held, net_read, Rows, too_short, head_verdict, rest_verdict}
use Rattle.archive.specs.Reader.{read_verdict, read_answer, rows_read}
use Rattle.archive.specs.Work.{Blocked}
use Rattle.archive.proofs.Reading.{nodes_read_lem}
use Rattle.archive.proofs.ReadOrder.{records_alone, blocks_passed, blocked}

module _ (file : List ℕ) (rows : Rows) (t : read_verdict file rows ≡ taken) where
  head_ok : head_verdict file ≡ taken
  unfolding read_verdict
  head_ok = head_taken _ _ t

  rest_ok : rest_verdict file rows ≡ taken
  unfolding read_verdict
  rest_ok = head_taken _ _ (rest-taken _ _ t)

  pub accepted_blocked : (head : Header) → head ≡ head_read file → Blocked file head
  accepted_blocked = blocked file (blocks_passed file rows t)

  pub accepted_sound : net_verdict (net_read file) ≡ taken
  unfolding rest_verdict
  accepted_sound = records_alone file head_ok ∙ head_taken _ _ (rest-taken _ _ (rest-taken _ _ rest_ok))

  loose : too_short (nodes_read file) (links_read file) rows ≡ false
  unfolding rest_verdict
  loose = if_taken_lem _ NoRoom 0 (head_taken _ _ (rest-taken _ _ (rest-taken _ _ (rest-taken _ _ rest_ok))))

  rooms : (links_read file ≤ links_in rows.links) × (nodes_read file ≤ length rows.parents) × (nodes_read file ≤ entries_in rows.entries)
  unfolding too_short
  rooms =
      let z =
      or3_false (ltb (links_in rows.links) (links_read file)) (ltb (length rows.parents) (nodes_read file))
      (ltb (entries_in rows.entries) (nodes_read file)) loose in
      (ltb-false _ _ z.0, ltb-false _ _ z.1, ltb-false _ _ z.2)

  module _ (head : Header) (h : head ≡ head_read file) where
    nodes-is : head.nodes ≡ nodes_read file
    unfolding head_read
    nodes-is = ap (λ (k : Header). k.nodes) h

    links-is : head.links ≡ links_read file
    unfolding head_read
    links-is = ap (λ (k : Header). k.links) h

    pub links-room : head.links ≤ links_in rows.links
    links-room = omega (arith, links-is, rooms.0)

    pub parents-room : head.nodes ≤ length rows.parents
    parents-room = omega (arith, nodes-is, rooms.1)

    pub entries-room : head.nodes ≤ entries_in rows.entries
    entries-room = omega (arith, nodes-is, rooms.2)

-- the answer and the rows
module _ (file links parents entries : List ℕ) (v : Verdict) (is : v ≡ read_verdict file (record { links = links; parents = parents; entries = entries })) where
  pub read_taken :
      v ≡ taken
      → (head : Header) → head ≡ head_read file → (links' parents' entries' : List ℕ)
      → links' ≡ links_held file ++ past_links (links_read file) links
      → parents' ≡ parents_held file ++ drop (nodes_read file) parents
      → entries' ≡ table (net_read file) ++ past_entries (nodes_read file) entries
      → (Ok head ≡ read_answer file (record { links = links; parents = parents; entries = entries }))
      × (links' ≡ (rows_read file (record { links = links; parents = parents; entries = entries })).links)
      × (parents' ≡ (rows_read file (record { links = links; parents = parents; entries = entries })).parents)
      × (entries' ≡ (rows_read file (record { links = links; parents = parents; entries = entries })).entries)
  unfolding read_answer rows_read
  read_taken t head h links' parents' entries' p q r = (rw (← is, t) (ap Ok h), rw (← is, t) p, rw (← is, t) q, rw (← is, t) r)

  pub read_refused :
      (why : Refusal)
      → v ≡ Err why
      → (Err why ≡ read_answer file (record { links = links; parents = parents; entries = entries }))
      × (links ≡ (rows_read file (record { links = links; parents = parents; entries = entries })).links)
      × (parents ≡ (rows_read file (record { links = links; parents = parents; entries = entries })).parents)
      × (entries ≡ (rows_read file (record { links = links; parents = parents; entries = entries })).entries)
  unfolding read_answer rows_read
  read_refused why t = (rw (← is, t), rw (← is, t), rw (← is, t), rw (← is, t))

-- of an accepted file, the entry read for each node is that of its network, the marks that no file stores among its numbers
pub entry_read :
    (file : List ℕ) (rows : Rows)
    → read_verdict file rows ≡ taken → (x : ℕ) → x < (net_read file).nodes → entry_at (rows_read file rows).entries x ≡ entry (net_read file) x
unfolding rows_read
entry_read file rows t x l = rw t (table-entry (net_read file) (past_entries (nodes_read file) rows.entries) x l)

-- no file is taken where the rows are empty: a network has a node
abbrev unlent : Rows
unlent = record { links = []; parents = []; entries = [] }

pub unlent_refused : (file : List ℕ) → (r : Refusal) × (read_verdict file (record { links = []; parents = []; entries = [] }) ≡ Err r)
unfolding head_read
unlent_refused file = go (read_verdict file unlent) refl
  where
    go : (v : Verdict) → read_verdict file unlent ≡ v → (r : Refusal) × (read_verdict file unlent ≡ Err r)
    go (Ok _) t =
        let s = sound (net_read file) (accepted_sound file unlent t) in
        let some : (net_read file).search.root < (net_read file).nodes = root_in (net_read file) s in
        let room : nodes_read file ≤ 0 = parents-room file unlent t (head_read file) refl in
        absurd (omega (arith, some, nodes_read_lem file, room))
    go (Err r) t = (r, t)
