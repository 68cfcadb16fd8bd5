-- The file of a sound network: its size, and what the writer answers. Assumes nothing.
use Rattle.std.specs.Prelude.{Err, Ok, Result}
use mathlib.Core.Path.{◌≡◌, refl, sym, subst, ap, ap₂, ◌∙◌}
use mathlib.Core.List.{List, ◌++◌}
use Prim.Native.Nat.{ℕ, ◌*◌, ◌<◌, ◌≤◌}
use native.Mathlib.Omega.{arith}
use lib.Dec.{ltb}
use lib.ListN.{length, drop}
use Rattle.edition.specs.declared.Search.{Search}
use Rattle.edition.specs.declared.Aim.{Aim}
use Rattle.edition.specs.Refusals.{Verdict, taken}
use Rattle.edition.specs.Stored.{stored_nodes, stored_links, edition_limits, by_number, block_bytes, block_limit}
use Rattle.rows.specs.Count.{rows_to}
use Rattle.network.specs.Network.{Net, links_in, net_of}
use Rattle.network.specs.Records.{size_verdict}
use Rattle.network.proofs.Sizes.{sized-nodes, sized-links}
use Rattle.sound.specs.declared.Sizes.{Sizes}
use Rattle.edition.specs.declared.Refusal.{Refusal}
use Rattle.sound.specs.Sound.{net_verdict, checked}
use Rattle.sound.proofs.Handing.{sound_told, handed_then}
use Rattle.sound.proofs.Sounds.{sound}
use Rattle.sound.proofs.Holding.{nodes-few, links-few}
use Rattle.numbers.specs.Bytes.{word_most}
use Rattle.archive.proofs.FileContents.{block_size}
use Rattle.archive.specs.Parts.{blocks_for, block_count}
use Rattle.archive.specs.Work.{Tabled}
use Rattle.archive.specs.Writer.{block_of, file_of, file_length, write_verdict, write_answer, written_row}
use Rattle.edition.specs.declared.Why.TheVariants.{NoRoom}
use Rattle.edition.specs.Limits.{node_limit, link_limit}
use Rattle.rows.specs.First.{refuse_if}
use Rattle.rows.proofs.Refusing.{head_refuses, head_passes, only_one, if_taken_lem}
use borrow.Author.Tests.{ltb-false}

-- how many blocks there can be
pub few_blocks : (n m r : ℕ) → r ≡ block_count n m → n ≤ word_most → m ≤ word_most → r ≤ word_most
unfolding block_count blocks_for
few_blocks n m r q ln lm = omega (arith, q, ln, lm)

-- a file within edition 1's limits has at most 63 blocks, and the largest has 63
pub blocks_limited : (n m : ℕ) → n ≤ stored_nodes → m ≤ stored_links → block_count n m ≤ block_limit
unfolding block_count blocks_for
blocks_limited n m ln lm = omega (arith, ln, lm)

pub blocks_reached : block_count stored_nodes stored_links ≡ block_limit
unfolding block_count blocks_for
blocks_reached = refl

-- so it is no longer than 32,256 bytes
pub file_limited : (g : Net) → size_verdict edition_limits g.nodes g.links g.search ≡ taken → file_length g ≤ block_limit * block_bytes
unfolding file_length
file_limited g t =
    omega (arith, blocks_limited g.nodes g.links (sized-nodes edition_limits _ _ _ t) (sized-links edition_limits _ _ _ t))

-- the number of blocks as the code has it
pub count_of : (n m k : ℕ) {l : ℕ} → m ≡ l → k ≡ block_count n m → k ≡ block_count n l
count_of n m k q p = p ∙ ap (block_count n) q

pub file_room :
    (links parents : List ℕ) (search : Search) (room : ℕ)
    → file_length (net_of links parents search) ≤ room → block_count (length parents) (links_in links) * block_bytes ≤ room
unfolding file_length net_of
file_room links parents search room l = l

-- each block has its size
pub rows_sized :
    (links parents : List ℕ) (search : Search) (entries : List ℕ)
    → Tabled (net_of links parents search) entries → (i : ℕ) → i < block_count (length parents) (links_in links)
    → length (block_of (net_of links parents search) i) ≡ block_bytes
rows_sized links parents search entries t i l = block_size (net_of links parents search) i

-- what the loop leaves is the file
pub file_is :
    (links parents : List ℕ) (search : Search) (before after : List ℕ)
    → after
    ≡ rows_to (block_of (net_of links parents search)) (block_count (length parents) (links_in links)) ++ drop
    (block_count (length parents) (links_in links) * block_bytes) before
    → after ≡ file_of (net_of links parents search) ++ drop (file_length (net_of links parents search)) before
unfolding file_of file_length net_of
file_is links parents search before after q = q

module _ (links parents : List ℕ) (search : Search) where
  abbrev g : Net
  g = net_of links parents search

  -- the sizes of a sound network
  module _ (ok : net_verdict g ≡ taken) where
    pub few-nodes : length parents ≤ node_limit
    unfolding net_of
    few-nodes = nodes-few g (sound g ok)

    pub few-links : links_in links ≤ link_limit
    unfolding net_of
    few-links = links-few g (sound g ok)

    pub nodes-small : length parents ≤ word_most
    nodes-small = omega (arith, few-nodes)

    pub links-small : (m : ℕ) → m ≡ links_in links → m ≤ word_most
    links-small m q = omega (arith, q, few-links)

    pub count_small : (m : ℕ) → m ≡ links_in links → (k : ℕ) → k ≡ block_count (length parents) m → k ≤ word_most
    count_small m q k p = few_blocks (length parents) m k p nodes-small (links-small m q)

  -- the writer's verdict and answer
  module _ (file : List ℕ) where
    module _ (s : Result Sizes Refusal) (z : Sizes) (e : s ≡ checked g) (t : s ≡ Ok z) where
      told : (net_verdict g ≡ taken) × (z.nodes ≡ length parents) × (z.links ≡ links_in links)
      unfolding net_of
      told = sound_told g s z e t

      pub sizes_small : (z.nodes ≤ word_most) × (z.links ≤ word_most)
      sizes_small = (omega (arith, told.1, nodes-small told.0), links-small told.0 z.links told.2)

      -- 10, behind the check of the network
      pub room_judged :
          (k : ℕ)
          → k ≡ block_count z.nodes z.links * block_bytes → (w : Verdict)
          → w ≡ refuse_if (ltb (length file) k) NoRoom 0 → w ≡ write_verdict g file
      unfolding write_verdict file_length net_of
      room_judged k q w p =
          let size : k ≡ block_count (length parents) (links_in links) * block_bytes = q ∙ ap₂ (λ (a b : ℕ). block_count a b * block_bytes) told.1 told.2 in
          p
          ∙ (ap (λ (j : ℕ). refuse_if (ltb (length file) j) NoRoom 0) size
          ∙ handed_then g s e z t (refuse_if (ltb (length file) (block_count (length parents) (links_in links) * block_bytes)) NoRoom 0))

    -- by the network's verdict, which the table gave
    pub write_unsound :
        (r : Refusal)
        → net_verdict g ≡ Err r
        → (Err r ≡ write_answer g file)
        × (file ≡ written_row g file)
    unfolding write_answer written_row write_verdict
    write_unsound r t = let said : write_verdict g file ≡ Err r = head_refuses _ _ r t in (rw said, rw said)

    module _ (entries : List ℕ) (t : Tabled g entries) (m : ℕ) (c : m ≡ links_in links) where
      pub tabled-small : (length parents ≤ word_most) × (m ≤ word_most)
      tabled-small = (nodes-small t.ok, links-small t.ok m c)

      module _ (k : ℕ) (e : k ≡ block_count (length parents) m * block_bytes) where
        length-is : k ≡ file_length g
        unfolding file_length net_of
        length-is = e ∙ ap (λ j. block_count (length parents) j * block_bytes) c

        room_decides : write_verdict g file ≡ refuse_if (ltb (length file) (file_length g)) NoRoom 0
        unfolding write_verdict
        room_decides = head_passes _ _ t.ok ∙ only_one _

        -- 10, where the table is worked out already
        module _ (w : Verdict) (said : w ≡ refuse_if (ltb (length file) k) NoRoom 0) where
          judged : write_verdict g file ≡ w
          judged = room_decides ∙ (ap (λ (j : ℕ). refuse_if (ltb (length file) j) NoRoom 0) (sym length-is) ∙ sym said)

          pub tabled-refused : (r : Refusal) → w ≡ Err r → (Err r ≡ write_answer g file) × (file ≡ written_row g file)
          unfolding write_answer written_row
          tabled-refused r t = (rw (judged, t), rw (judged, t))

          pub tabled-room : w ≡ taken → file_length g ≤ length file
          tabled-room t = omega (arith, ltb-false (length file) k (if_taken_lem _ NoRoom 0 (sym said ∙ t)), length-is)

          pub tabled_written :
              w ≡ taken
              → (after : List ℕ) → after ≡ file_of g ++ drop (file_length g) file → (Ok k ≡ write_answer g file) × (after ≡ written_row g file)
          unfolding write_answer written_row
          tabled_written t after p = (rw (judged, t) (ap Ok length-is), rw (judged, t) p)

-- the search that the code works by is the one that root and depth mean
module _ (links parents : List ℕ) {search : Search} (aim : Aim) (meant : search ≡ by_number aim) (file : List ℕ) where
  pub verdict_meant : {v : Verdict} → v ≡ write_verdict (net_of links parents search) file → v ≡ write_verdict (net_of links parents (by_number aim)) file
  verdict_meant {v} h = subst (λ (s : Search). v ≡ write_verdict (net_of links parents s) file) meant h

  pub answer_meant :
      {r : Result ℕ Refusal} {after : List ℕ}
      → (r ≡ write_answer (net_of links parents search) file)
      × (after ≡ written_row (net_of links parents search) file)
      → (r ≡ write_answer (net_of links parents (by_number aim)) file)
      × (after ≡ written_row (net_of links parents (by_number aim)) file)
  answer_meant {r} {after} h =
      subst
      (λ (s : Search).
      (r ≡ write_answer (net_of links parents s) file)
      × (after ≡ written_row (net_of links parents s) file))
      meant h
