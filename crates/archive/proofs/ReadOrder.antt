-- The order of the refusals of a file. Assumes nothing.
use Rattle.std.specs.Prelude.{Err, Ok}
use mathlib.Core.Path.{◌≡◌, refl, sym, ap, ◌∙◌}
use mathlib.Core.Bool.{Bool, not}
use mathlib.Core.List.{List, [], ◌∷◌}
use Prim.Native.Nat.{ℕ, ◌*◌, ◌≤◌}
use native.Mathlib.Omega.{arith}
use lib.Dec.{eqb}
use lib.ListN.{length}
use borrow.Author.Tests.{eqb-true, not-false}
use Rattle.edition.specs.declared.Refusal.{Refusal}
use Rattle.edition.specs.Refusals.{Verdict, taken}
use Rattle.edition.specs.declared.Why.TheVariants.{BadLength, NoRoom, BadEntry}
use Rattle.edition.specs.Limits.{memory_limits}
use Rattle.edition.proofs.Within.{edition_within}
use Rattle.edition.specs.Stored.{stored_nodes, stored_links, edition_limits, block_bytes}
use Rattle.rows.specs.First.{refuse_if, refuse_at, firstly}
use Rattle.rows.proofs.Refusing.{head_taken, rest-taken, head_refuses, head_passes, only_one, if_taken_lem}
use Rattle.network.specs.Network.{net_of}
use Rattle.network.specs.Records.{size_verdict}
use Rattle.network.proofs.Sizes.{sized-nodes, sized-links, sizes_grow}
use Rattle.sound.specs.Sound.{record_verdict, net_verdict}
use Rattle.numbers.specs.Bytes.{word_most}
use Rattle.archive.specs.declared.Header.{Header}
use Rattle.archive.specs.Parts.{block_count}
use Rattle.archive.specs.Reader.{nodes_read, links_read, search_read, head_read, net_read, bad_entry, Rows, too_short, head_verdict, rest_verdict, read_verdict}
use Rattle.archive.specs.Work.{Blocked, bad_stored, content_verdict, blocks_verdict}
use Rattle.archive.proofs.Reading.{nodes_read_lem, links_read_lem}

-- checks in their order, the first three of them together
together :
    (a b c : Verdict) (rest : List Verdict)
    → firstly (a ∷ firstly (b ∷ c ∷ rest) ∷ [])
    ≡ firstly (firstly (a ∷ b ∷ c ∷ []) ∷ firstly rest ∷ [])
unfolding firstly
together (Ok _) (Ok _) (Ok _) rest = refl
together (Ok _) (Ok _) (Err r) rest = refl
together (Ok _) (Err r) c rest = refl
together (Err r) b c rest = refl

pub sizes_taken : (file : List ℕ) → head_verdict file ≡ taken → size_verdict edition_limits (nodes_read file) (links_read file) (search_read file) ≡ taken
unfolding head_verdict
sizes_taken file t = head_taken _ _ (rest-taken _ _ (rest-taken _ _ t))

few-nodes : (file : List ℕ) → head_verdict file ≡ taken → nodes_read file ≤ stored_nodes
few-nodes file t = sized-nodes edition_limits _ _ _ (sizes_taken file t)

few-links : (file : List ℕ) → head_verdict file ≡ taken → links_read file ≤ stored_links
few-links file t = sized-links edition_limits _ _ _ (sizes_taken file t)

searched :
    (file : List ℕ)
    → size_verdict edition_limits (nodes_read file) (links_read file) (search_read file) ≡ taken
    → size_verdict edition_limits (nodes_read file) (links_read file) (net_read file).search ≡ taken
unfolding net_read net_of
searched file t = t

size_read :
    (file : List ℕ)
    → size_verdict edition_limits (nodes_read file) (links_read file) (search_read file) ≡ taken
    → size_verdict memory_limits (net_read file).nodes (net_read file).links (net_read file).search ≡ taken
size_read file t =
    sizes_grow edition_limits memory_limits edition_within (net_read file).nodes (net_read file).links (net_read file).search
    (rw (nodes_read_lem file, links_read_lem file) (searched file t))

-- 1 to 4 are asked of the head already, at edition 1's limits, which are within memory's
pub records_alone : (file : List ℕ) → head_verdict file ≡ taken → net_verdict (net_read file) ≡ record_verdict (net_read file)
unfolding net_verdict
records_alone file t = head_passes _ _ (size_read file (sizes_taken file t)) ∙ only_one _

-- the content of a file whose head is taken
content_decides :
    (file : List ℕ) (short : Bool)
    → head_verdict file ≡ taken
    → content_verdict file (net_read file) short
    ≡ firstly
    (record_verdict (net_read file) ∷ refuse_if short NoRoom 0 ∷ refuse_at (bad_entry file) (nodes_read file) BadEntry ∷
    [])
unfolding content_verdict bad_stored bad_entry
content_decides file short t =
    ap (λ (v : Verdict). firstly (v ∷ refuse_if short NoRoom 0 ∷ refuse_at (bad_entry file) (net_read file).nodes BadEntry ∷ [])) (records_alone file t)
    ∙ ap (λ (k : ℕ). firstly (record_verdict (net_read file) ∷ refuse_if short NoRoom 0 ∷ refuse_at (bad_entry file) k BadEntry ∷ [])) (nodes_read_lem file)

-- the sizes of a file whose head is taken, and its blocks where its length is
module _ (file : List ℕ) (v : Verdict) (is : v ≡ head_verdict file) where
  module _ (ok : v ≡ taken) (head : Header) (h : head ≡ head_read file) where
    is_taken : head_verdict file ≡ taken
    is_taken = sym is ∙ ok

    nodes-is : head.nodes ≡ nodes_read file
    unfolding head_read
    nodes-is = ap (λ (k : Header). k.nodes) h

    links-is : head.links ≡ links_read file
    unfolding head_read
    links-is = ap (λ (k : Header). k.links) h

    pub small_sizes : (head.nodes ≤ word_most) × (head.links ≤ word_most)
    small_sizes = (omega (arith, nodes-is, few-nodes file is_taken), omega (arith, links-is, few-links file is_taken))

    pub blocks_there :
        (k : ℕ)
        → k ≡ block_count head.nodes head.links * block_bytes → (w : Verdict) → w ≡ refuse_if (not (eqb (length file) k)) BadLength 0
        → w ≡ taken → block_count head.nodes head.links * block_bytes ≤ length file
    blocks_there k e w wis long = omega (arith, eqb-true (length file) k (not-false _ (if_taken_lem _ BadLength 0 (sym wis ∙ long))), e)

-- the verdict on head, length and blocks, and the records behind it
module _ (file : List ℕ) (rows : Rows) where
  in_order :
      read_verdict file rows
      ≡ firstly
      (blocks_verdict file ∷
      firstly
      (record_verdict (net_read file) ∷ refuse_if (too_short (nodes_read file) (links_read file) rows) NoRoom 0 ∷
      refuse_at (bad_entry file) (nodes_read file) BadEntry ∷ []) ∷
      [])
  unfolding read_verdict rest_verdict blocks_verdict
  in_order = together _ _ _ _

  pub blocks_passed : read_verdict file rows ≡ taken → blocks_verdict file ≡ taken
  blocks_passed t = head_taken _ _ (sym in_order ∙ t)

  pub blocks_refuse : (v : Verdict) → v ≡ blocks_verdict file → (r : Refusal) → v ≡ Err r → v ≡ read_verdict file rows
  blocks_refuse v is r t = t ∙ sym (in_order ∙ head_refuses _ _ r (sym is ∙ t))

module _ (file : List ℕ) (t : blocks_verdict file ≡ taken) (head : Header) (h : head ≡ head_read file) where
  head_passed : head_verdict file ≡ taken
  unfolding blocks_verdict
  head_passed = head_taken _ _ t

  pub blocked : Blocked file head
  unfolding blocks_verdict
  blocked =
      record {
        is = h;
        sized = sizes_taken file head_passed;
        long = eqb-true (length file) _ (not-false _ (if_taken_lem _ BadLength 0 (head_taken _ _ (rest-taken _ _ t))));
      }

  short-is : (rows : Rows) → too_short head.nodes head.links rows ≡ too_short (nodes_read file) (links_read file) rows
  unfolding head_read
  short-is rows = ap (λ (k : Header). too_short k.nodes k.links rows) h

  pub records_decide :
      (rows : Rows) (short : Bool)
      → short ≡ too_short head.nodes head.links rows → (y : Verdict)
      → y ≡ content_verdict file (net_read file) short → y ≡ read_verdict file rows
  records_decide rows short s y q =
      q
      ∙ (content_decides file short head_passed
      ∙ (ap
      (λ (b : Bool). firstly
      (record_verdict (net_read file) ∷ refuse_if b NoRoom 0 ∷ refuse_at (bad_entry file) (nodes_read file) BadEntry ∷
      []))
      (s ∙ short-is rows)
      ∙ sym (in_order file rows ∙ (head_passes _ _ t ∙ only_one _))))
