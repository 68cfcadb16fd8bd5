-- What is read from a file, record by record, and the bytes that the writer makes of it. Assumes nothing.
use mathlib.Core.Path.{◌≡◌, refl, ap, ◌∙◌}
use mathlib.Core.List.{List, [], ◌∷◌, ◌++◌}
use Prim.Native.Nat.{ℕ, ◌+◌, ◌<◌, ◌≤◌}
use native.Mathlib.Omega.{arith}
use lib.ListN.{length, get_or, take, drop}
use Rattle.edition.specs.Stored.{header_bytes, link_bytes}
use Rattle.rows.proofs.Records.{rows_length}
use Rattle.network.specs.Network.{net_of}
use Rattle.network.proofs.Keeping.{rows_count, rows_link}
use Rattle.numbers.specs.Bytes.{number_in}
use Rattle.record.specs.Record.{header_record, link_record}
use Rattle.archive.specs.Parts.{link_place, entry_place}
use Rattle.archive.specs.Reader.{nodes_read, links_read, search_read, stored_link, links_held, parents_held, net_read}
use Rattle.numbers.proofs.Pieces.{number_back}
use Rattle.archive.proofs.Pieces.{join}

module _ (file : List ℕ) where
  -- as many nodes and links as the header says
  pub nodes_read_lem : (net_read file).nodes ≡ nodes_read file
  unfolding net_read net_of parents_held
  nodes_read_lem = omega (arith, rows_length (λ x. number_in file (entry_place (links_read file) x) 2 ∷ []) 1 (λ x. refl) (nodes_read file))

  pub links_read_lem : (net_read file).links ≡ links_read file
  unfolding net_read net_of links_held
  links_read_lem = rows_count (stored_link file) (links_read file)

  search_read_lem : (net_read file).search ≡ search_read file
  unfolding net_read net_of
  search_read_lem = refl

  -- each link is the stored one
  pub link_read : (e : ℕ) → e < links_read file → (net_read file).link e ≡ stored_link file e
  unfolding net_read net_of links_held
  link_read e l = rows_link (stored_link file) (links_read file) e l

  module _ (bytes : (i : ℕ) → get_or file i 0 < 256) where
    -- four numbers that are read and written again
    four_back :
        (p : ℕ)
        → p + 8 ≤ length file
        → take 2 (drop p file) ++ take 2 (drop (p + 2) file) ++ take 2 (drop (p + 4) file) ++ take 2 (drop (p + 6) file)
        ≡ take 8 (drop p file)
    four_back p h =
        ap (λ (r : List ℕ). r ++ take 2 (drop (p + 4) file) ++ take 2 (drop (p + 6) file)) (join 2 2 p file)
        ∙ (ap (λ (r : List ℕ). r ++ take 2 (drop (p + 6) file)) (join 4 2 p file) ∙ join 6 2 p file)

    -- the record of a link, written again, is the bytes that stand there
    pub link_back :
        (e : ℕ)
        → e < links_read file → link_place e + link_bytes ≤ length file
        → link_record ((net_read file).link e) ≡ take link_bytes (drop (link_place e) file)
    unfolding link_record stored_link
    link_back e l h =
        let p = link_place e in
        rw (
          link_read e l,
          number_back 2 file p bytes (omega arith),
          number_back 2 file (p + 2) bytes (omega arith),
          number_back 2 file (p + 4) bytes (omega arith),
          number_back 2 file (p + 6) bytes (omega arith),
        )
        (four_back p (omega arith))

    -- so is the header's
    pub header_back : 16 ≤ length file → header_record (net_read file).nodes (net_read file).links (net_read file).search ≡ take header_bytes (drop 8 file)
    unfolding header_record nodes_read links_read search_read
    header_back h =
        rw (
          nodes_read_lem,
          links_read_lem,
          search_read_lem,
          number_back 2 file 8 bytes (omega arith),
          number_back 2 file 10 bytes (omega arith),
          number_back 2 file 12 bytes (omega arith),
          number_back 2 file 14 bytes (omega arith),
        )
        (four_back 8 (omega arith))
