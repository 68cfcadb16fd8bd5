-- The parts of a file: how many blocks there are at most, a part as it is made, and what is known of each. Assumes nothing.
use mathlib.Core.Path.{◌≡◌, refl, sym, subst}
use mathlib.Core.Bool.{Bool, true, false, cond}
use mathlib.Core.List.{List}
use Prim.Native.Nat.{ℕ, ◌+◌, ◌-◌, ◌*◌, ◌<◌, ◌≤◌, min}
use native.Mathlib.Omega.{arith}
use lib.Dec.{eqb, leb}
use lib.ListN.{length}
use borrow.Author.Tests.{eqb-true, eqb-false, ne_eqb, leb-true, leb-false, le-ltb}
use Rattle.edition.specs.Limits.{node_limit, link_limit}
use Rattle.edition.specs.Stored.{payload_bytes, header_kind, links_kind, table_kind, header_bytes, link_bytes, entry_bytes, headers_a_block, links_a_block}
use Rattle.edition.specs.Stored.{entries_a_block}
use Rattle.rows.proofs.Tests.{clash}
use Rattle.block.specs.Block.{capacity, record_bytes, no_such_block}
use Rattle.archive.specs.declared.Part.{Part}
use Rattle.archive.specs.Parts.{blocks_for, link_blocks, block_count, part_of, part_at}
use Rattle.archive.specs.Work.{held_bytes}

-- a part of a file is the header's, one of links or one of entries
pub by_part :
    (P : Part → Type 0) (n m i : ℕ)
    → (i ≡ 0 → P (part_of header_kind headers_a_block 1 0))
    → (0 < i → i ≤ link_blocks m → P (part_of links_kind links_a_block m (i - 1)))
    → (link_blocks m < i → P (part_of table_kind entries_a_block n (i - 1 - link_blocks m))) → P (part_at n m i)
unfolding part_at
by_part P n m i header links entries = go (eqb i 0) refl (leb i (link_blocks m)) refl
  where
    go : (a : Bool) → eqb i 0 ≡ a → (b : Bool) → leb i (link_blocks m) ≡ b → P (part_at n m i)
    go true e b f = rw e (header (eqb-true i 0 e))
    go false e true f = rw (e, f) (links (omega (arith, eqb-false i 0 e)) (leb-true i (link_blocks m) f))
    go false e false f = rw (e, f) (entries (omega (arith, leb-false i (link_blocks m) f)))

-- a record by its kind has the bytes of its kind
pub kind_size :
    (kind : ℕ) (header link own : List ℕ)
    → length header ≡ header_bytes → length link ≡ link_bytes → length own ≡ entry_bytes
    → length (cond (eqb kind header_kind) header (cond (eqb kind links_kind) link own)) ≡ held_bytes kind
unfolding held_bytes
kind_size kind header link own h l o = go (eqb kind header_kind) (eqb kind links_kind)
  where
    go : (a b : Bool) → length (cond a header (cond b link own)) ≡ cond a header_bytes (cond b link_bytes entry_bytes)
    go true b = h
    go false true = l
    go false false = o

-- a part whose records fit a block
pub record Fit (p : Part) : Type 0 where
  pub few : p.used ≤ links_a_block
  pub size : held_bytes p.kind ≡ record_bytes p.kind
  pub room : p.used * record_bytes p.kind ≤ payload_bytes

pub held_room : (p : Part) → Fit p → p.used * held_bytes p.kind ≤ payload_bytes
held_room p f = subst (λ k. p.used * k ≤ payload_bytes) (sym f.size) f.room

-- so is each of every file
pub part_fit : (n m i : ℕ) → Fit (part_at n m i)
unfolding part_of record_bytes held_bytes
part_fit n m i =
    by_part Fit n m i
    (λ e. record { few = omega arith; size = refl; room = omega arith })
    (λ l h. record { few = omega arith; size = refl; room = omega arith })
    (λ h. record { few = omega arith; size = refl; room = omega arith })

pub part_small : (n m i : ℕ) (part : Part) → part ≡ part_at n m i → part.used ≤ links_a_block
part_small n m i part q = subst (λ (p : Part). p.used ≤ links_a_block) (sym q) (part_fit n m i).few

-- each has some records, and no more than a block of its kind holds
heard : (kind used : ℕ) → 0 < used → used ≤ capacity kind → no_such_block kind used ≡ false
unfolding no_such_block
heard kind used some few = rw (ne_eqb used 0 (λ z. omega (arith, some, z)), le-ltb (capacity kind) used few)

pub part_such : (n m i : ℕ) → i < block_count n m → no_such_block (part_at n m i).kind (part_at n m i).used ≡ false
unfolding part_of capacity block_count blocks_for
part_such n m i l =
    by_part (λ p. no_such_block p.kind p.used ≡ false) n m i
    (λ e. heard header_kind 1 (omega arith) (omega arith))
    (λ s h. heard links_kind (min links_a_block (m - (i - 1) * links_a_block)) (omega (arith, s, h)) (omega arith))
    (λ h. heard table_kind (min entries_a_block (n - (i - 1 - link_blocks m) * entries_a_block)) (omega (arith, h, l)) (omega arith))

-- a part whose records there are
pub record Stands (n : ℕ) (p : Part) : Type 0 where
  pub low : p.from + p.used ≤ link_limit
  pub nodes : eqb p.kind header_kind ≡ false → eqb p.kind links_kind ≡ false → p.from + p.used ≤ n

-- so is each of a file within the limits
pub part_stands : (n m i : ℕ) → n ≤ node_limit → m ≤ link_limit → i < block_count n m → Stands n (part_at n m i)
unfolding part_of block_count blocks_for
part_stands n m i ln lm l =
    by_part (Stands n) n m i
    (λ e. record { low = omega arith; nodes = λ e f. clash {b = eqb header_kind header_kind} refl e })
    (λ s h. record { low = omega (arith, s, h, lm); nodes = λ e f. clash {b = eqb links_kind links_kind} refl f })
    (λ h. record { low = omega (arith, h, l, ln); nodes = λ e f. omega (arith, h, l) })
