-- What is read from a file that the writer made of a sound network: its header, its depth, its rows, the network. Assumes nothing.
use mathlib.Core.Path.{◌≡◌, refl, sym, ap, ap₂, ◌∙◌}
use mathlib.Core.Bool.{Bool, true, false}
use mathlib.Core.List.{List, [], ◌∷◌, ◌++◌}
use Prim.Native.Nat.{ℕ, ◌+◌, ◌*◌, ◌<◌, ◌≤◌}
use native.Mathlib.Nat.{add-zero}
use native.Mathlib.Omega.{arith}
use lib.Dec.{eqb}
use lib.ListN.{length, get_or}
use lib.Seq.{ext_get_or}
use borrow.Author.Tests.{eqb-true, not-false}
use Rattle.edition.specs.declared.Entry.{Entry}
use Rattle.edition.specs.declared.Search.{Search}
use Rattle.edition.specs.declared.Aim.{Aim}
use Rattle.edition.specs.Refusals.{taken}
use Rattle.edition.specs.Limits.{no_link, whole_search, lowest_number, longest}
use Rattle.edition.specs.Stored.{by_number, header_bytes, link_bytes, entry_bytes}
use Rattle.rows.specs.Count.{rows_to}
use Rattle.rows.proofs.Records.{rows_length}
use Rattle.network.specs.Network.{Net, links_in, link_in, net_of}
use Rattle.network.proofs.Keeping.{rows_count, rows_link}
use Rattle.network.specs.Records.{bad_parent}
use Rattle.network.proofs.Whole.{same-links, first_held, second_held, length_held, mark_held}
use Rattle.sound.specs.Sound.{net_verdict}
use Rattle.sound.proofs.Sounds.{sound}
use Rattle.sound.proofs.Holding.{nodes-few, links-few, root_in, depth_few, parent_in}
use Rattle.swap.specs.Entry.{entry}
use Rattle.numbers.specs.Bytes.{bytes_of, number_in, word_most}
use Rattle.record.specs.Record.{header_record, link_record, entry_record}
use Rattle.archive.specs.Parts.{link_place, entry_place}
use Rattle.archive.specs.Writer.{file_of}
use Rattle.archive.specs.Reader.{nodes_read, links_read, search_read, stored_link, links_held, parents_held, net_read}
use Rattle.numbers.proofs.Pieces.{number_part}
use Rattle.archive.proofs.Pieces.{row_get}
use Rattle.archive.proofs.FileContents.{header_there, link-there, entry-there}

-- four numbers of 16 bits, read back
module _ (a b c d : ℕ) where
  abbrev four : List ℕ
  four = bytes_of 2 a ++ bytes_of 2 b ++ bytes_of 2 c ++ bytes_of 2 d

  first_of_four : a ≤ word_most → number_in four 0 2 ≡ a
  unfolding bytes_of number_in
  first_of_four h = omega arith

  second_of_four : b ≤ word_most → number_in four 2 2 ≡ b
  unfolding bytes_of number_in
  second_of_four h = omega arith

  third_of_four : c ≤ word_most → number_in four 4 2 ≡ c
  unfolding bytes_of number_in
  third_of_four h = omega arith

  fourth_of_four : d ≤ word_most → number_in four 6 2 ≡ d
  unfolding bytes_of number_in
  fourth_of_four h = omega arith

-- the parent of an entry, read back
parent_of_entry : (u : ℕ) (e : Entry) → u ≤ word_most → number_in (entry_record u e) 0 2 ≡ u
unfolding entry_record bytes_of number_in
parent_of_entry u e h = omega arith

module _ (g : Net) (ok : net_verdict g ≡ taken) where
  depth_small : g.search.depth ≤ word_most
  depth_small = go (eqb g.search.depth whole_search) refl
    where
      go : (b : Bool) → eqb g.search.depth whole_search ≡ b → g.search.depth ≤ word_most
      go true e = omega (arith, eqb-true g.search.depth whole_search e)
      go false e = omega (arith, depth_few g (sound g ok) e)

  root-small : g.search.root ≤ word_most
  root-small = omega (arith, root_in g (sound g ok), nodes-few g (sound g ok))

  in_header : (q : ℕ) → q + 2 ≤ header_bytes → number_in (file_of g) (8 + q) 2 ≡ number_in (header_record g.nodes g.links g.search) q 2
  in_header q h =
      sym (number_part (file_of g) 8 header_bytes q 2 h) ∙ ap (λ (s : List ℕ). number_in s q 2) (header_there g)

  -- the header's numbers
  pub nodes_written : nodes_read (file_of g) ≡ g.nodes
  unfolding nodes_read header_record
  nodes_written = in_header 0 (omega arith) ∙ first_of_four g.nodes g.links g.search.root g.search.depth (omega (arith, nodes-few g (sound g ok)))

  pub links_written : links_read (file_of g) ≡ g.links
  unfolding links_read header_record
  links_written =
      in_header 2 (omega arith)
      ∙ second_of_four g.nodes g.links g.search.root g.search.depth
      (omega (arith, links-few g (sound g ok)))

  -- the root and the depth that are read are those that were written, and the rule is 0
  pub depth_written : g.search.rule ≡ lowest_number → search_read (file_of g) ≡ g.search
  unfolding search_read header_record
  depth_written low =
      let root_is = in_header 4 (omega arith) ∙ third_of_four g.nodes g.links g.search.root g.search.depth root-small in
      let depth_is = in_header 6 (omega arith) ∙ fourth_of_four g.nodes g.links g.search.root g.search.depth depth_small in
      λ i. record { root = root_is i; depth = depth_is i; rule = sym low i }

  parent-small : (u : ℕ) → u < g.nodes → g.parent u ≤ word_most
  unfolding bad_parent
  parent-small u l = go (eqb u g.search.root) refl
    where
      go : (b : Bool) → eqb u g.search.root ≡ b → g.parent u ≤ word_most
      go true e = omega (arith, eqb-true (g.parent u) no_link (not-false _ (rw e at ((sound g ok).recorded.parents-ok u l))))
      go false e = omega (arith, parent_in g (sound g ok) u l e, links-few g (sound g ok))

  -- the parent of a node
  parent_written : (u : ℕ) → u < g.nodes → number_in (file_of g) (entry_place (links_read (file_of g)) u) 2 ≡ g.parent u
  parent_written u l =
      ap (λ (k : ℕ). number_in (file_of g) k 2) (ap (λ (k : ℕ). entry_place k u) links_written ∙ sym (add-zero (entry_place g.links u)))
      ∙ (sym (number_part (file_of g) (entry_place g.links u) entry_bytes 0 2 (omega arith))
      ∙ (ap (λ (s : List ℕ). number_in s 0 2) (entry-there g u l) ∙ parent_of_entry (g.parent u) (entry g u) (parent-small u l)))

  in_link : (e q : ℕ) → e < g.links → q + 2 ≤ link_bytes → number_in (file_of g) (link_place e + q) 2 ≡ number_in (link_record (g.link e)) q 2
  in_link e q l h =
      sym (number_part (file_of g) (link_place e) link_bytes q 2 h) ∙ ap (λ (s : List ℕ). number_in s q 2) (link-there g e l)

  -- each link, whose numbers have 16 bits
  pub link_written :
      (e : ℕ)
      → e < g.links → (g.link e).first ≤ word_most → (g.link e).second ≤ word_most → (g.link e).length ≤ word_most
      → (g.link e).mark ≤ word_most → stored_link (file_of g) e ≡ g.link e
  unfolding stored_link link_record
  link_written e l p q r s =
      let a = (g.link e).first in
      let b = (g.link e).second in
      let c = (g.link e).length in
      let d = (g.link e).mark in
      let zeroth : number_in (file_of g) (link_place e) 2 ≡ number_in (file_of g) (link_place e + 0) 2 =
      ap (λ (k : ℕ). number_in (file_of g) k 2) (sym (add-zero (link_place e))) in
      λ i.
      record {
        first = (zeroth ∙ (in_link e 0 l (omega arith) ∙ first_of_four a b c d p)) i;
        second = (in_link e 2 l (omega arith) ∙ second_of_four a b c d q) i;
        length = (in_link e 4 l (omega arith) ∙ third_of_four a b c d r) i;
        mark = (in_link e 6 l (omega arith) ∙ fourth_of_four a b c d s) i;
      }

-- a sound network of lent rows, whose numbers have 16 bits
module _ (links parents : List ℕ) (aim : Aim) (ok : net_verdict (net_of links parents (by_number aim)) ≡ taken)
    (held : (i : ℕ) → get_or links i 0 ≤ longest) where
  abbrev g : Net
  g = net_of links parents (by_number aim)

  links_counted : links_read (file_of g) ≡ links_in links
  unfolding net_of
  links_counted = links_written g ok

  nodes_counted : nodes_read (file_of g) ≡ length parents
  unfolding net_of
  nodes_counted = nodes_written g ok

  row_count : links_in (links_held (file_of g)) ≡ links_in links
  unfolding links_held
  row_count = rows_count (stored_link (file_of g)) (links_read (file_of g)) ∙ links_counted

  stored_is : (e : ℕ) → e < links_in links → stored_link (file_of g) e ≡ link_in links e
  unfolding net_of
  stored_is e l = link_written g ok e l (first_held links held e) (second_held links held e) (length_held links held e) (mark_held links held e)

  -- the links read are those that were written, record for record
  pub links_back : (e : ℕ) → e < links_in links → link_in (links_held (file_of g)) e ≡ link_in links e
  unfolding links_held
  links_back e l = rows_link (stored_link (file_of g)) (links_read (file_of g)) e (omega (arith, l, links_counted)) ∙ stored_is e l

  -- the row of parents read is the row that was written
  pub parents_back : parents_held (file_of g) ≡ parents
  unfolding parents_held net_of
  parents_back =
      let f : ℕ → List ℕ = λ x. number_in (file_of g) (entry_place (links_read (file_of g)) x) 2 ∷ [] in
      let size = rows_length f 1 (λ x. refl) (nodes_read (file_of g)) in
      ext_get_or no_link (rows_to f (nodes_read (file_of g))) parents (omega (arith, size, nodes_counted))
      (λ j l.
      let here : j * 1 + 0 ≡ j = omega arith in
      sym (ap (λ (k : ℕ). get_or (rows_to f (nodes_read (file_of g))) k no_link) here)
      ∙ (row_get f 1 (λ x. refl) (nodes_read (file_of g)) j 0 no_link (omega (arith, l, size)) (omega arith)
      ∙ parent_written g ok j (omega (arith, l, size, nodes_counted))))

  search_back : search_read (file_of g) ≡ by_number aim
  unfolding net_of
  search_back = depth_written g ok refl

  -- the network read is the network that was written
  pub network_back : net_read (file_of g) ≡ g
  unfolding net_read
  network_back =
      ap₂ (λ (p : List ℕ) (s : Search). net_of (links_held (file_of g)) p s) parents_back search_back
      ∙ same-links (links_held (file_of g)) links row_count (λ e l. links_back e (omega (arith, l, row_count))) parents (by_number aim)
