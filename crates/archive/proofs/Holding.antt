-- The rows that a file holds are those that are read from it. Assumes nothing.
use mathlib.Core.Path.{◌≡◌, refl, sym, subst, ap, ◌∙◌}
use mathlib.Core.Bool.{Bool}
use mathlib.Core.List.{List, [], ◌∷◌, ◌++◌, append-nil}
use Prim.Native.Nat.{ℕ, ◌+◌, ◌-◌, ◌*◌, ◌<◌, ◌≤◌}
use native.Mathlib.Omega.{arith}
use lib.ListN.{length, take, drop, replicate, length-replicate, drop_of_length-le}
use lib.Seq.{take_at, length-take-le}
use borrow.Rule.Slice.PartMut.{put_mid}
use Rattle.edition.specs.Refusals.{Verdict}
use Rattle.edition.specs.Limits.{node_limit, link_room}
use Rattle.edition.proofs.Within.{edition_within}
use Rattle.edition.specs.Stored.{stored_nodes, stored_links, edition_limits, block_bytes, entry_bytes}
use Rattle.rows.specs.Count.{rows_to, row_with}
use Rattle.rows.proofs.Records.{rows_length}
use Rattle.rows.specs.Records.{past_records}
use Rattle.network.specs.Network.{Net, links_in, link_row, put_link, front_links, past_links, net_of}
use Rattle.network.proofs.Keeping.{rows_first, put_next}
use Rattle.network.proofs.Sizes.{sized-nodes, sized-links}
use Rattle.numbers.specs.Bytes.{number_in}
use Rattle.archive.specs.declared.Header.{Header}
use Rattle.archive.specs.Parts.{blocks_for, block_count, entry_place}
use Rattle.archive.specs.Reader.{nodes_read, links_read, search_read, head_read, stored_link, links_held, parents_held, net_read}
use Rattle.archive.specs.Work.{links_from, parent_number, Placed, Blocked, Judged}
use Rattle.archive.proofs.Reading.{nodes_read_lem, links_read_lem}

-- a row that was filled begins with what it was filled with
front_of : (f : ℕ → ℕ) (k : ℕ) (before row : List ℕ) → row ≡ row_with f k before → take k row ≡ rows_to (λ u. f u ∷ []) k
unfolding row_with
front_of f k before row q =
    ap (take k) q ∙ take_at (rows_to (λ u. f u ∷ []) k) (drop k before) k (omega (arith, rows_length (λ u. f u ∷ []) 1 (λ x. refl) k))

links_of_lem : (file : List ℕ) → links_in (links_held file) ≡ links_read file
unfolding net_read net_of
links_of_lem file = links_read_lem file

nodes_of_lem : (file : List ℕ) → length (parents_held file) ≡ nodes_read file
unfolding net_read net_of
nodes_of_lem file = nodes_read_lem file

-- a file that is long enough holds every entry
place_in : (n m x : ℕ) → x < n → entry_place m x + entry_bytes ≤ block_count n m * block_bytes
unfolding entry_place block_count blocks_for
place_in n m x l = omega (arith, l)

module _ (file : List ℕ) (head : Header) (b : Blocked file head) where
  placed_rows : (m : ℕ) → m ≡ links_read file → (n : ℕ) → n ≡ nodes_read file → Placed file m n
  placed_rows m p n q =
      record {
        each =
            λ x l. omega (
              arith,
              b.long,
              subst (λ k. entry_place k x + entry_bytes ≤ block_count (nodes_read file) (links_read file) * block_bytes)
                  (sym p) (place_in (nodes_read file) (links_read file) x (omega (arith, l, q))),
            );
      }

  nodes-is : head.nodes ≡ nodes_read file
  unfolding head_read
  nodes-is = ap (λ (h : Header). h.nodes) b.is

  links-is : head.links ≡ links_read file
  unfolding head_read
  links-is = ap (λ (h : Header). h.links) b.is

  search_is : head.search ≡ search_read file
  unfolding head_read
  search_is = ap (λ (h : Header). h.search) b.is

  pub few-nodes : head.nodes ≤ stored_nodes
  few-nodes = omega (arith, nodes-is, sized-nodes edition_limits _ _ _ b.sized)

  pub few-links : head.links ≤ stored_links
  few-links = omega (arith, links-is, sized-links edition_limits _ _ _ b.sized)

  -- what edition 1 holds, rows of memory's longest hold
  pub links_fit : head.links ≤ links_in (replicate {A = ℕ} link_room 0)
  links_fit = omega (arith, few-links, edition_within.links, length-replicate {A = ℕ} link_room 0)

  pub parents_fit : head.nodes ≤ length (replicate {A = ℕ} node_limit 0)
  parents_fit = omega (arith, few-nodes, edition_within.nodes, length-replicate {A = ℕ} node_limit 0)

  -- a row that was filled, as the definitions say it
  pub links-filled : (before row : List ℕ) → row ≡ links_from file head.links before → row ≡ links_held file ++ past_links (links_read file) before
  unfolding links_from links_held
  links-filled before row q = q ∙ ap (λ (k : ℕ). links_from file k before) links-is

  pub parents-filled :
      (before row : List ℕ)
      → row ≡ row_with (parent_number file head.links) head.nodes before
      → row ≡ parents_held file ++ drop (nodes_read file) before
  unfolding row_with parents_held parent_number
  parents-filled before row q =
      q
      ∙ (ap (λ (k : ℕ). rows_to (λ x. number_in file (entry_place k x) 2 ∷ []) head.nodes ++ drop head.nodes before) links-is
      ∙ ap (λ (k : ℕ). rows_to (λ x. number_in file (entry_place (links_read file) x) 2 ∷ []) k ++ drop k before) nodes-is)

  module _ (zeros row : List ℕ) (q : row ≡ links_from file head.links zeros) (zeros' row' : List ℕ)
      (q' : row' ≡ row_with (parent_number file head.links) head.nodes zeros') where
    links_are : front_links head.links row ≡ links_held file
    unfolding links_from links_held
    links_are =
        ap (front_links head.links) q
        ∙ (rows_first (stored_link file) head.links (past_links head.links zeros)
        ∙ ap (rows_to (λ e. link_row (stored_link file e))) links-is)

    parents_are : take head.nodes row' ≡ parents_held file
    unfolding parents_held parent_number
    parents_are =
        front_of (parent_number file head.links) head.nodes zeros' row' q'
        ∙ (ap (λ (k : ℕ). rows_to (λ x. number_in file (entry_place k x) 2 ∷ []) head.nodes) links-is
        ∙ ap (rows_to (λ x. number_in file (entry_place (links_read file) x) 2 ∷ [])) nodes-is)

    -- in the words of the code, whose parts are the first records
    module _ (part : List ℕ) (e : part ≡ front_links head.links row) (part' : List ℕ) (e' : part' ≡ take head.nodes row') where
      part_is : part ≡ links_held file
      part_is = e ∙ links_are

      part_is' : part' ≡ parents_held file
      part_is' = e' ∙ parents_are

      network_is : net_of part part' head.search ≡ net_read file
      unfolding net_read
      network_is = λ t. net_of (part_is t) (part_is' t) (search_is t)

      pub judged_is :
          (short : Bool) (v : Verdict) (worked : List ℕ)
          → Judged file (net_of part part' head.search) short v worked
          → Judged file (net_read file) short v worked
      judged_is short v worked j = subst (λ (g : Net). Judged file g short v worked) network_is j

      pub entries-placed : Placed file (links_in part) (length part')
      entries-placed = placed_rows (links_in part) (ap links_in part_is ∙ links_of_lem file) (length part') (ap length part_is' ∙ nodes_of_lem file)

-- the loop over the links: none is put at the start, and one more at each step
pub links_none : (file before : List ℕ) → before ≡ links_from file 0 before
unfolding links_from rows_to past_links past_records
links_none file before = refl

pub links_more :
    (file before : List ℕ) (k : ℕ)
    → k < links_in before
    → put_link (links_from file k before) k (stored_link file k) ≡ links_from file (k + 1) before
unfolding links_from
links_more file before k h = put_next (stored_link file) k before h (stored_link file k) refl

-- the loop over the parents: it writes the part of a row that holds them
module _ (n : ℕ) (row : List ℕ) (room : n ≤ length row) where
  pub part-long : length (take (n - 0) row) ≡ n
  part-long = length-take-le (n - 0) row (omega arith) ∙ omega arith

  pub part_written : (f : ℕ → ℕ) (now : List ℕ) → now ≡ row_with f n (take (n - 0) row) → put_mid 0 (n - 0) row now ≡ row_with f n row
  unfolding row_with
  part_written f now q =
      let none = drop_of_length-le (take (n - 0) row) {i = n} (omega (arith, part-long)) in
      let k : n - 0 ≡ n = omega arith in
      ap (λ (x : List ℕ). x ++ drop (n - 0) row) (q ∙ ap (λ (x : List ℕ). rows_to (λ u. f u ∷ []) n ++ x) none ∙ append-nil _)
      ∙ ap (λ (i : ℕ). rows_to (λ u. f u ∷ []) n ++ drop i row) k
