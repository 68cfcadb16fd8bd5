-- Block i of the file, as it is made from the lent rows and the table. Assumes nothing.
use mathlib.Core.Path.{◌≡◌, refl, sym, subst, ap, ◌∙◌}
use mathlib.Core.Bool.{Bool, true, false}
use mathlib.Core.List.{List, ◌++◌, append_assoc}
use Prim.Native.Nat.{ℕ, ◌+◌, ◌*◌, ◌<◌, ◌≤◌}
use native.Mathlib.Omega.{arith}
use lib.Dec.{eqb}
use lib.ListN.{length, get_or, take, drop}
use lib.Seq.{sets, sets-eq, length-sets, take_at, drop_at, length-take-le}
use borrow.Author.Tests.{eq-eqb}
use Rattle.edition.specs.declared.Search.{Search}
use Rattle.edition.specs.Limits.{no_link}
use Rattle.edition.specs.Stored.{block_bytes, front_bytes, header_kind, links_kind}
use Rattle.block.specs.Block.{no_such_block, block, sealed}
use Rattle.archive.specs.declared.Part.{Part}
use Rattle.archive.specs.Parts.{blocks_for, block_count, part_at}
use Rattle.archive.specs.Work.{held_bytes, record_by, laid, Held, Tabled}
use Rattle.archive.specs.Writer.{record_of, block_of}
use Rattle.numbers.specs.Bytes.{word_most}
use Rattle.archive.proofs.Parting.{Fit, held_room, part_fit, part_such, Stands, part_stands}
use Rattle.archive.proofs.WriterAnswer.{few-nodes, few-links}
use Rattle.archive.proofs.Laying.{record-size}
use Rattle.rows.specs.Count.{rows_to}
use Rattle.rows.proofs.Records.{rows_cong, rows_length}
use Rattle.network.specs.Network.{Net, links_in, net_of}
use Rattle.entries.specs.Row.{entry_at}
use Rattle.table.proofs.Whole.{table-entry}
use Rattle.record.specs.Record.{entry_record}

-- a record by the rows is the network's
record_is :
    (links parents : List ℕ) (search : Search) (entries : List ℕ)
    → Tabled (net_of links parents search) entries → (kind r : ℕ)
    → (eqb kind header_kind ≡ false → eqb kind links_kind ≡ false → r < length parents)
    → record_by links parents search entries kind r ≡ record_of (net_of links parents search) kind r
unfolding record_by record_of net_of
record_is links parents search entries t kind r low = go (eqb kind header_kind) refl (eqb kind links_kind) refl
  where
    go :
        (a : Bool)
        → eqb kind header_kind ≡ a → (b : Bool) → eqb kind links_kind ≡ b
        → record_by links parents search entries kind r ≡ record_of (net_of links parents search) kind r
    go true e b f = rw e
    go false e true f = rw (e, f)
    go false e false f =
        rw (e, f)
        (ap (entry_record (get_or parents r no_link))
        (ap (λ (row : List ℕ). entry_at row r) t.is
        ∙ table-entry (net_of links parents search) t.more r (low e f)))

-- the records of a laid block, and the block that is sealed
laid_back :
    (size : ℕ) (records row : List ℕ)
    → length records ≡ size → front_bytes + size ≤ length row
    → take size (drop front_bytes (sets row front_bytes records)) ≡ records
laid_back size records row e l =
    ap (λ (r : List ℕ). take size (drop front_bytes r))
    (sets-eq records row front_bytes (omega (arith, e, l))
    ∙ append_assoc (take front_bytes row) records (drop (front_bytes + length records) row))
    ∙ (ap (take size)
    (drop_at (take front_bytes row) (records ++ drop (front_bytes + length records) row) front_bytes
    (length-take-le front_bytes row (omega (arith, l))))
    ∙ take_at records (drop (front_bytes + length records) row) size e)

seal_made :
    (number : ℕ) (f : ℕ → List ℕ) (part : Part) (before : List ℕ)
    → length before ≡ block_bytes → no_such_block part.kind part.used ≡ false → Fit part
    → length (rows_to (λ r. f (part.from + r)) part.used) ≡ part.used * held_bytes part.kind
    → sealed part.kind number part.used (laid f part before)
    ≡ block part.kind number part.used (rows_to (λ r. f (part.from + r)) part.used)
unfolding sealed laid
seal_made number f part before e heard fit records =
    let out = sets before front_bytes (rows_to (λ r. f (part.from + r)) part.used) in
    let long : length out ≡ block_bytes = length-sets before front_bytes (rows_to (λ r. f (part.from + r)) part.used) ∙ e in
    rw (eq-eqb (length out) block_bytes long, heard, ← fit.size)
    (ap (block part.kind number part.used)
    (laid_back (part.used * held_bytes part.kind) (rows_to (λ r. f (part.from + r)) part.used) before records
    (omega (arith, e, held_room part fit))))

block-is :
    (links parents : List ℕ) (search : Search) (i : ℕ)
    → block (part_at (length parents) (links_in links) i).kind i (part_at (length parents) (links_in links) i).used
    (rows_to
    (λ r. record_of (net_of links parents search) (part_at (length parents) (links_in links) i).kind
    ((part_at (length parents) (links_in links) i).from + r))
    (part_at (length parents) (links_in links) i).used)
    ≡ block_of (net_of links parents search) i
unfolding block_of net_of
block-is links parents search i = refl

module _ (links parents : List ℕ) (search : Search) where
  abbrev g : Net
  g = net_of links parents search

  module _ (entries : List ℕ) (t : Tabled g entries) (i : ℕ) (there : i < block_count (length parents) (links_in links)) where
    pub block_number : i ≤ word_most
    unfolding block_count blocks_for
    block_number = omega (arith, few-nodes links parents search t.ok, few-links links parents search t.ok, there)

    module _ (m : ℕ) (count : m ≡ links_in links) (part : Part) (is : part ≡ part_at (length parents) m i) where
      named : part ≡ part_at (length parents) (links_in links) i
      named = is ∙ ap (λ k. part_at (length parents) k i) count

      fit : Fit part
      fit = subst Fit (sym named) (part_fit (length parents) (links_in links) i)

      heard : no_such_block part.kind part.used ≡ false
      heard = subst (λ (p : Part). no_such_block p.kind p.used ≡ false) (sym named) (part_such (length parents) (links_in links) i there)

      stands : Stands (length parents) part
      stands =
          subst (Stands (length parents)) (sym named)
          (part_stands (length parents) (links_in links) i (few-nodes links parents search t.ok)
          (few-links links parents search t.ok) there)

      pub part_held : (room : ℕ) → room ≡ block_bytes → Held part room
      part_held room e = record { low = stands.low; fits = omega (arith, held_room part fit, e) }

      pub block_made :
          (before laid_out after : List ℕ)
          → length before ≡ block_bytes → laid_out ≡ laid (record_by links parents search entries part.kind) part before
          → after ≡ sealed part.kind i part.used laid_out → after ≡ block_of g i
      block_made before laid_out after e q s =
          s
          ∙ (ap (sealed part.kind i part.used) q
          ∙ (sealed-is
          ∙ ap
          (λ (p : Part). block p.kind i p.used
          (rows_to (λ r. record_of g p.kind (p.from + r)) p.used))
          named
          ∙ block-is links parents search i))
        where
          records : List ℕ
          records = rows_to (λ r. record_by links parents search entries part.kind (part.from + r)) part.used

          records_size : length records ≡ part.used * held_bytes part.kind
          records_size = rows_length _ (held_bytes part.kind) (λ r. record-size links parents search entries part.kind (part.from + r)) part.used

          same : records ≡ rows_to (λ r. record_of g part.kind (part.from + r)) part.used
          same =
              rows_cong _ _ part.used
              (λ r l. record_is links parents search entries t part.kind (part.from + r)
              (λ a b. omega (arith, l, stands.nodes a b)))

          sealed-is :
              sealed part.kind i part.used (laid (record_by links parents search entries part.kind) part before)
              ≡ block part.kind i part.used
              (rows_to (λ r. record_of g part.kind (part.from + r)) part.used)
          sealed-is =
              seal_made i (record_by links parents search entries part.kind) part before e heard fit records_size
              ∙ ap (block part.kind i part.used) same
