-- Only whole records count: rows that agree on those make one network, so everything said of a network is the same for both.
-- A row of 16-bit numbers has no length over 65,535. Assumes nothing.
use mathlib.Core.Path.{◌≡◌, refl, sym, subst, ap, ◌∙◌}
use mathlib.Core.Bool.{Bool, true, false}
use mathlib.Core.List.{List}
use Prim.Native.Nat.{ℕ, ◌+◌, ◌*◌, ◌<◌, ◌≤◌}
use native.Mathlib.Omega.{arith}
use lib.Dec.{ltb}
use lib.ListN.{length, get_or}
use borrow.Author.Tests.{ltb-true, ltb-false}
use Rattle.edition.specs.declared.Search.{Search}
use Rattle.edition.specs.Limits.{no_link, link_width, longest}
use Rattle.rows.specs.Records.{record_in}
use Rattle.rows.proofs.Put as put
use Rattle.network.specs.Network.{Net, links_in, link_from, link_in, front_links, net_of}
use Rattle.network.proofs.Keeping.{link-none, link-front}

-- two rows with as many links, and the same ones
module _ (a b : List ℕ) (count : links_in a ≡ links_in b) (records : (e : ℕ) → e < links_in a → link_in a e ≡ link_in b e) where
  link_agrees : (e : ℕ) → link_in a e ≡ link_in b e
  link_agrees e = go (ltb e (links_in a)) refl
    where
      go : (t : Bool) → ltb e (links_in a) ≡ t → link_in a e ≡ link_in b e
      go true q = records e (ltb-true e (links_in a) q)
      go false q =
          let out = ltb-false e (links_in a) q in
          sym (link-none a e out) ∙ link-none b e (omega (arith, out, count))

  -- make the same network
  pub same-links : (parents : List ℕ) (search : Search) → net_of a parents search ≡ net_of b parents search
  unfolding net_of
  same-links parents search =
      λ i.
      record {
        nodes = length parents;
        links = count i;
        link = λ e. link_agrees e i;
        parent = λ u. get_or parents u no_link;
        search = search;
      }

-- two rows of links with as many whole records, and the same numbers in them
pub record Agree (a b : List ℕ) : Type 0 where
  pub count : links_in a ≡ links_in b
  pub numbers : front_links (links_in a) a ≡ front_links (links_in b) b

-- the same network
pub same_network : (a b : List ℕ) → Agree a b → (parents : List ℕ) (search : Search) → net_of a parents search ≡ net_of b parents search
same_network a b h = same-links a b h.count (λ e l. links_agree e l)
  where
    links_agree : (e : ℕ) → e < links_in a → link_in a e ≡ link_in b e
    links_agree e l =
        sym (link-front a (links_in a) e l (omega arith))
        ∙ (ap (λ (r : List ℕ). link_in r e) h.numbers ∙ link-front b (links_in b) e (omega (arith, l, h.count)) (omega arith))

-- every answer that is a function of the network is the same for both
pub same_answer :
    {A : Type 0} (a b : List ℕ)
    → Agree a b → (f : Net → A) (parents : List ℕ) (search : Search)
    → f (net_of a parents search) ≡ f (net_of b parents search)
same_answer a b h f parents search = ap f (same_network a b h parents search)

-- no number of a link passes the largest 16-bit number
module _ (row : List ℕ) (held : (i : ℕ) → get_or row i 0 ≤ longest) (e : ℕ) where
  number_held : (i : ℕ) → i < link_width → get_or (record_in link_width row e) i 0 ≤ longest
  number_held i l = go (ltb e (links_in row)) refl
    where
      go : (t : Bool) → ltb e (links_in row) ≡ t → get_or (record_in link_width row e) i 0 ≤ longest
      go true q = subst (λ (v : ℕ). v ≤ longest) (sym (put.record_number link_width row e i (ltb-true e (links_in row) q) l)) (held (e * link_width + i))
      go false q = rw (put.record-none link_width row e (ltb-false e (links_in row) q)) (omega arith)

  pub first_held : (link_in row e).first ≤ longest
  unfolding link_in link_from
  first_held = number_held 0 (omega arith)

  pub second_held : (link_in row e).second ≤ longest
  unfolding link_in link_from
  second_held = number_held 1 (omega arith)

  pub length_held : (link_in row e).length ≤ longest
  unfolding link_in link_from
  length_held = number_held 2 (omega arith)

  pub mark_held : (link_in row e).mark ≤ longest
  unfolding link_in link_from
  mark_held = number_held 3 (omega arith)
