-- Which links are offered: those out of service and the tree's own cross nothing, and one whose ends have one rank crosses no node
-- asked for. Assumes nothing.
use Rattle.std.proofs.Common.{◌≡◌, ℕ, ◌+◌, ◌^◌, ◌<◌, ◌≤◌, Bool, true, false, not, ◌&&◌, eqb, List, length, get_or, sym, refl, ap, ◌∙◌, subst, arith, eq-eqb}
use Rattle.std.proofs.Common.{ne_eqb, eqb-true}
use borrow.Author.Tests.{not-false}
use Rattle.edition.specs.declared.Search.{Search}
use Rattle.edition.specs.Limits.{longest, no_link}
use Rattle.edition.specs.Entries.{first_end, second_end}
use Rattle.rows.proofs.Tests.{not_so, and_none}
use Rattle.network.specs.declared.Link.{Link}
use Rattle.network.specs.Network.{Net, net_of, link_in, links_in, in_service, other_end}
use Rattle.network.specs.Records.{bad_parent}
use Rattle.tree.specs.Tree.{tree_of, under}
use Rattle.tree.proofs.Ways.{under-step}
use Rattle.sound.specs.Surveyed.{Surveyed}
use Rattle.sound.proofs.Sounds.{Sound}
use Rattle.sound.proofs.Holding.{first_in, second_in, ends_differ, links-few, home}
use Rattle.swap.specs.Swap.{crosses}
use Rattle.swap.specs.Work.{through}
use Rattle.network.proofs.Whole.{length_held}
use Rattle.table.specs.Table.{is_asked}
use Rattle.table.specs.Work.{Starts, Started, Searching, Spare, Climbing, Linked, rank, Ranked}
use Rattle.table.specs.declared.Side.{Side}
use Rattle.table.proofs.Surveys.{fine, size_is, in_tree, dist-few}
use Rattle.table.proofs.Ranks.{rank_same}
use Rattle.table.proofs.Nearness.{row_reads}
use Rattle.table.proofs.Offering.{entries-same}
use Rattle.table.proofs.Linking.{want_kept, differ_same}

linked_none :
    (g : Net) (n : ℕ) (asked : List ℕ) (e : ℕ) (row : List ℕ)
    → ((x : ℕ) → is_asked asked x ≡ true → crosses (tree_of g) x e (g.link e) ≡ false) → Linked g n asked e row row
linked_none g n asked e row c =
    record { goes_on = λ before h. entries-same _ _ _ before row (λ x l. sym (want_kept g asked before e x (c x))) h }

module _ (g : Net) (s : Sound g) (e : ℕ) (there : e < g.links) where
  -- the root has no parent link
  off_top : (u : ℕ) → u < g.nodes → g.parent u ≡ e → eqb u g.search.root ≡ false
  unfolding bad_parent
  off_top u l q = not_so (eqb u g.search.root) no
    where
      no : eqb u g.search.root ≡ true → ⊥
      no r =
          let b : not (eqb (g.parent u) no_link) ≡ false = rw r at (s.recorded.parents-ok u l) in
          omega (arith, there, links-few g s, q, eqb-true (g.parent u) no_link (not-false (eqb (g.parent u) no_link) b))

  -- a node x but u has both u and its parent below it or none of them
  same_side : (u : ℕ) → u < g.nodes → g.parent u ≡ e → (x : ℕ) → eqb u x ≡ false → under (tree_of g) x u ≡ under (tree_of g) x (other_end (g.link e) u)
  unfolding tree_of
  same_side u l q x n = under-step (tree_of g) u x (home g s u l) (off_top u l q) ∙ rw (n, off_top u l q, q)

  own :
      (u : ℕ)
      → g.parent u ≡ e
      → ((x : ℕ) → eqb u x ≡ false → under (tree_of g) x (g.link e).first ≡ under (tree_of g) x (g.link e).second)
      → (x : ℕ) → crosses (tree_of g) x e (g.link e) ≡ false
  unfolding crosses tree_of
  own u q h x = go (eqb u x) refl
    where
      go : (b : Bool) → eqb u x ≡ b → crosses (tree_of g) x e (g.link e) ≡ false
      go true c =
          let p : g.parent x ≡ e = ap g.parent (sym (eqb-true u x c)) ∙ q in
          rw (p, eq-eqb e e refl, and_none (in_service (g.link e)))
      go false c = rw (h x c, differ_same (under (tree_of g) x (g.link e).second), and_none (in_service (g.link e) && not (eqb e (g.parent x))))

  -- a tree link crosses nothing
  pub own_first : g.parent (g.link e).first ≡ e → (x : ℕ) → crosses (tree_of g) x e (g.link e) ≡ false
  unfolding other_end
  own_first q =
      own (g.link e).first q
      (λ x n. same_side (g.link e).first (first_in g s e there) q x n
      ∙ rw (eq-eqb (g.link e).first (g.link e).first refl))

  pub own_second : g.parent (g.link e).second ≡ e → (x : ℕ) → crosses (tree_of g) x e (g.link e) ≡ false
  unfolding other_end
  own_second q =
      own (g.link e).second q
      (λ x n. sym
      (same_side (g.link e).second (second_in g s e there) q x n
      ∙ rw (ne_eqb (g.link e).first (g.link e).second (ends_differ g s e there))))

  -- nor does one that is out of service
  idle : in_service (g.link e) ≡ false → (x : ℕ) → crosses (tree_of g) x e (g.link e) ≡ false
  unfolding crosses
  idle q x = rw q

  -- nor, where its ends have one rank, any node asked for
  one_rank :
      {survey : List ℕ} (sv : Surveyed g survey) (asked : List ℕ)
      → rank (tree_of g) asked (g.link e).first ≡ rank (tree_of g) asked (g.link e).second → (x : ℕ) → is_asked asked x ≡ true
      → crosses (tree_of g) x e (g.link e) ≡ false
  unfolding crosses
  one_rank sv asked q x o =
      rw (
        rank_same sv asked _ _ (in_tree sv _ (first_in g s e there)) (in_tree sv _ (second_in g s e there)) q x o,
        differ_same (under (tree_of g) x (g.link e).second),
        and_none (in_service (g.link e) && not (eqb e ((tree_of g).link x))),
      )

module _ (links parents : List ℕ) (search : Search) where
  abbrev g : Net
  g = net_of links parents search

  module _ {survey : List ℕ} (sv : Surveyed g survey) {e : ℕ} (there : e < links_in links) {l : Link} (lq : l ≡ link_in links e) where
    in_net : e < g.links
    unfolding net_of
    in_net = there

    link-is : g.link e ≡ l
    unfolding net_of
    link-is = sym lq

    parent_is : (u : ℕ) → g.parent u ≡ get_or parents u no_link
    unfolding net_of
    parent_is u = refl

    pub first-node : l.first < g.nodes
    first-node = subst (λ (z : Link). z.first < g.nodes) link-is (first_in g (fine sv) e in_net)

    pub second_node : l.second < g.nodes
    second_node = subst (λ (z : Link). z.second < g.nodes) link-is (second_in g (fine sv) e in_net)

    pub first_starts : Starts g survey l.first
    first_starts = record { surveyed = sv; low = first-node }

    pub second_starts : Starts g survey l.second
    second_starts = record { surveyed = sv; low = second_node }

    module _ (asked row : List ℕ) where
      pub skip_idle : {b : Bool} → b ≡ in_service l → b ≡ false → Linked g g.nodes asked e row row
      skip_idle q p = linked_none _ _ asked e row (λ x o. idle _ (fine sv) e in_net (ap in_service link-is ∙ sym q ∙ p) x)

      pub skip_first : {p : ℕ} → p ≡ get_or parents l.first no_link → p ≡ e → Linked g g.nodes asked e row row
      skip_first q r = linked_none _ _ asked e row (λ x o. own_first _ (fine sv) e in_net it x)
        where
          it : g.parent (g.link e).first ≡ e
          it = rw link-is (parent_is _ ∙ sym q ∙ r)

      pub skip_second : {p : ℕ} → p ≡ get_or parents l.second no_link → p ≡ e → Linked g g.nodes asked e row row
      skip_second q r = linked_none _ _ asked e row (λ x o. own_second _ (fine sv) e in_net it x)
        where
          it : g.parent (g.link e).second ≡ e
          it = rw link-is (parent_is _ ∙ sym q ∙ r)

      module _ {ranks : List ℕ} (h : Ranked (tree_of g) asked ranks) where
        pub first-ranked : l.first < length ranks
        first-ranked = omega (arith, first-node, h.room, size_is sv)

        pub second_ranked : l.second < length ranks
        second_ranked = omega (arith, second_node, h.room, size_is sv)

        pub skip_ranked : get_or ranks l.first 0 ≡ get_or ranks l.second 0 → Linked g g.nodes asked e row row
        skip_ranked q = linked_none _ _ asked e row (one_rank _ (fine sv) e in_net sv asked same)
          where
            same : rank (tree_of g) asked (g.link e).first ≡ rank (tree_of g) asked (g.link e).second
            same =
                rw link-is
                (sym (h.each _ (in_tree sv _ first-node)) ∙ q ∙ h.each _ (in_tree sv _ second_node))

    -- the two climbs begin at the ends, and what the code adds up for K is K
    module _ {a b : Side} (p : Started g l.first first_end a) (q : Started g l.second second_end b) (held : (i : ℕ) → get_or links i 0 ≤ longest) where
      few-long : l.length ≤ longest
      few-long = rw lq (length_held links held e)

      pub k_fits : a.near + l.length + b.near < 2 ^ 64
      k_fits =
          omega (
            arith,
            p.carries.near_is,
            q.carries.near_is,
            dist-few sv l.first,
            dist-few sv l.second,
            few-long,
          )

      module _ {s : Bool} (sq : s ≡ in_service l) (st : s ≡ true) {u : ℕ} (uq : u ≡ get_or parents l.first no_link) (un : u ≡ e → ⊥)
          {v : ℕ} (vq : v ≡ get_or parents l.second no_link) (vn : v ≡ e → ⊥) where
        spare : Spare g e (a.near + l.length + b.near)
        unfolding through
        spare =
            record {
              there = in_net;
              serves = ap in_service link-is ∙ sym sq ∙ st;
              not_first = λ r. un (uq ∙ sym (parent_is l.first) ∙ (rw link-is at r));
              not_second = λ r. vn (vq ∙ sym (parent_is l.second) ∙ (rw link-is at r));
              through-is = rw (link-is, p.carries.near_is, q.carries.near_is);
              long = rw link-is few-long;
            }

        search_is : g.search ≡ search
        unfolding net_of
        search_is = refl

        pub climbing :
            {asked ranks row : List ℕ}
            → Searching g asked survey ranks row
            → Climbing g search links asked survey ranks row e (a.near + l.length + b.near) a b
        climbing h =
            record {
              searching = h;
              reads = row_reads links parents search sv held;
              search_is = search_is;
              spare = spare;
              starting =
                  record {
                    one = rw link-is p.carries;
                    one_at = rw link-is p.here;
                    one_mark = p.lower-is;
                    two = rw link-is q.carries;
                    two_at = rw link-is q.here;
                    two_mark = q.lower-is;
                  };
            }
