-- A row of links with one record set: the other records, the ends of that one and the tree are as they were. Assumes nothing.
use mathlib.Core.Path.{◌≡◌, sym, ap, ◌∙◌}
use mathlib.Core.Bool.{false, cond}
use mathlib.Core.List.{List}
use Prim.Native.Nat.{ℕ, ◌<◌}
use lib.Dec.{eqb}
use lib.ListN.{length, get_or}
use borrow.Author.Tests.{eqb-false}
use Rattle.edition.specs.declared.Change.{Change}
use Rattle.edition.specs.declared.Search.{Search}
use Rattle.edition.specs.Limits.{no_link}
use Rattle.network.specs.declared.Link.{Link}
use Rattle.network.specs.Network.{links_in, link_in, put_link, net_of, other_end}
use Rattle.network.proofs.Keeping as keeping
use Rattle.tree.specs.Tree.{tree_of}
use Rattle.change.specs.Change.{changed_link, set_link}

module _ (links : List ℕ) (c : Change) where
  pub count_same : links_in (set_link links c) ≡ links_in links
  unfolding set_link
  count_same = keeping.put_count links c.link (changed_link (link_in links c.link) c)

  pub link_other : (k : ℕ) → eqb k c.link ≡ false → link_in (set_link links c) k ≡ link_in links k
  unfolding set_link
  link_other k h = keeping.put_kept links c.link (changed_link (link_in links c.link) c) k (eqb-false k c.link h)

  pub link_set : c.link < links_in links → link_in (set_link links c) c.link ≡ changed_link (link_in links c.link) c
  unfolding set_link
  link_set there = keeping.put_back links c.link (changed_link (link_in links c.link) c) there

  module _ (parents : List ℕ) (search : Search) (spare : (u : ℕ) → eqb ((net_of links parents search).parent u) c.link ≡ false) where
    -- a link that is no node's parent link leaves the tree alone
    pub tree_same : tree_of (net_of (set_link links c) parents search) ≡ tree_of (net_of links parents search)
    unfolding tree_of net_of
    tree_same =
        let kept : (u : ℕ) → link_in (set_link links c) (get_or parents u no_link) ≡ link_in links (get_or parents u no_link) =
        λ u. link_other (get_or parents u no_link) (spare u) in
        λ i.
        record {
          size = length parents;
          root = search.root;
          link = λ u. get_or parents u no_link;
          up = λ u. let p = other_end (kept u i) u in cond (eqb u search.root) u p;
          rise = λ u. let w = (kept u i).length in cond (eqb u search.root) 0 w;
        }

-- of two changes of different links the second finds its record as it was
second_finds :
    (links : List ℕ) (c d : Change)
    → (d.link ≡ c.link → ⊥)
    → set_link (set_link links c) d
    ≡ put_link (put_link links c.link (changed_link (link_in links c.link) c)) d.link
    (changed_link (link_in links d.link) d)
unfolding set_link
second_finds links c d n =
    let first = put_link links c.link (changed_link (link_in links c.link) c) in
    ap (λ (l : Link). put_link first d.link (changed_link l d)) (keeping.put_kept links c.link (changed_link (link_in links c.link) c) d.link n)

-- so the two may be stored in either order
pub sets_agree : (links : List ℕ) (c d : Change) → (c.link ≡ d.link → ⊥) → set_link (set_link links c) d ≡ set_link (set_link links d) c
sets_agree links c d n =
    second_finds links c d (λ e. n (sym e))
    ∙ (keeping.put_swap links c.link d.link (changed_link (link_in links c.link) c) (changed_link (link_in links d.link) d) n
    ∙ sym (second_finds links d c n))
