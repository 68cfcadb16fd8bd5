-- A change that is taken leaves a sound network sound, and what it says holds of the changed record. Assumes nothing.
use mathlib.Core.Path.{◌≡◌, refl, sym, subst, ap, ◌∙◌}
use mathlib.Core.Bool.{Bool, true, false, not, ◌&&◌}
use mathlib.Core.List.{List}
use Prim.Native.Nat.{ℕ, ◌<◌}
use native.Mathlib.Omega.{arith}
use lib.Dec.{eqb, ltb}
use lib.ListN.{length, get_or, get_or-eq_default}
use borrow.Author.Tests.{eqb-true, ne_eqb, leb-false, ltb-true, ltb-false}
use Rattle.edition.specs.declared.Change.{Change}
use Rattle.edition.specs.declared.Search.{Search}
use Rattle.edition.specs.Refusals.{taken, refused}
use Rattle.edition.specs.declared.Why.TheVariants.{BadEnds, BadMark, BadParent, NoRoute, NotShort, LinkMissing, TreeLink, BreaksShort}
use Rattle.edition.specs.Limits.{no_link}
use Rattle.rows.proofs.Best.{some_none}
use Rattle.rows.proofs.Refusing.{head_taken, rest-taken, head_refuses, head_passes, if_taken_lem, at_passes, at_refuses}
use Rattle.network.specs.declared.Link.{Link}
use Rattle.network.specs.Network.{Net, links_in, link_in, net_of, is_parent, in_service}
use Rattle.network.specs.Records.{bad_ends, bad_mark, bad_parent}
use Rattle.tree.specs.Tree.{Tree, tree_of}
use Rattle.tree.proofs.Ways.{Home}
use Rattle.sound.specs.Sound.{no_route, short, not_short, record_verdict, net_verdict}
use Rattle.sound.proofs.Sounds.{Sized, Sound, sound, sizes_taken, home-not}
use Rattle.sound.proofs.Holding.{links-few}
use Rattle.table.proofs.Whole.{table_sound}
use Rattle.change.specs.Change.{breaks, change_verdict, changed_link, set_link}
use Rattle.change.proofs.Setting.{count_same, link_other, link_set, tree_same}

-- what 1 to 12 leave
pub record Asked (g : Net) (c : Change) : Type 0 where
  pub before : Sound g
  pub there : c.link < g.links
  pub mark_ok : bad_mark c.mark ≡ false
  pub spare-ok : is_parent g.parent g.nodes c.link ≡ false

-- what 1 to 13 leave
pub record Allowed (g : Net) (c : Change) : Type 0 where
  pub before : Sound g
  pub there : c.link < g.links
  pub mark_ok : bad_mark c.mark ≡ false
  pub spare-ok : is_parent g.parent g.nodes c.link ≡ false
  pub fits : breaks g c ≡ false

pub allowed : (g : Net) (entries : List ℕ) (c : Change) → change_verdict g entries c ≡ taken → Allowed g c
unfolding change_verdict
allowed g entries c t =
    let t11 = rest-taken _ _ t in
    let t6 = rest-taken _ _ t11 in
    let t12 = rest-taken _ _ t6 in
    let t13 = rest-taken _ _ t12 in
    record {
      before = sound g (table_sound g entries taken (sym (head_taken _ _ t)) refl);
      there = leb-false g.links c.link (if_taken_lem _ LinkMissing 0 (head_taken _ _ t11));
      mark_ok = if_taken_lem _ BadMark c.link (head_taken _ _ t6);
      spare-ok = if_taken_lem _ TreeLink c.link (head_taken _ _ t12);
      fits = if_taken_lem _ BreaksShort c.link (head_taken _ _ t13);
    }

module _ (links parents : List ℕ) (search : Search) where
  abbrev g : Net
  g = net_of links parents search

  module _ (c : Change) (a : Asked g c) where
    there : c.link < links_in links
    unfolding net_of
    there = a.there

    -- the link is no node's parent link, and 65,535 is no link
    pub asked_spare : (u : ℕ) → eqb (g.parent u) c.link ≡ false
    unfolding net_of is_parent
    asked_spare u = go (ltb u (length parents)) refl
      where
        go : (b : Bool) → ltb u (length parents) ≡ b → eqb (get_or parents u no_link) c.link ≡ false
        go true l = some_none (λ u. eqb (get_or parents u no_link) c.link) (length parents) a.spare-ok u (ltb-true u (length parents) l)
        go false l =
            ne_eqb (get_or parents u no_link) c.link
            (λ e. omega (
              arith,
              sym (get_or-eq_default parents no_link (ltb-false u (length parents) l))
                  ∙ e,
              a.there,
              links-few g a.before,
            ))

    pub asked_tree : tree_of (net_of (set_link links c) parents search) ≡ tree_of g
    asked_tree = tree_same links c parents search asked_spare

    -- what holds of every other record by what it was, and of that one by itself, holds of all
    at_links :
        (P : Link → Type 0)
        → ((k : ℕ) → k < links_in links → P (link_in links k)) → P (link_in (set_link links c) c.link) → (k : ℕ)
        → k < links_in (set_link links c) → P (link_in (set_link links c) k)
    at_links P f p k l = go (eqb k c.link) refl
      where
        go : (b : Bool) → eqb k c.link ≡ b → P (link_in (set_link links c) k)
        go true q = subst (λ j. P (link_in (set_link links c) j)) (sym (eqb-true k c.link q)) p
        go false q = subst P (sym (link_other links c k q)) (f k (omega (arith, l, count_same links c)))

    set_is : (P : Link → Type 0) → P (changed_link (link_in links c.link) c) → P (link_in (set_link links c) c.link)
    set_is P p = subst P (sym (link_set links c there)) p

    ends_still : (k : ℕ) → k < links_in (set_link links c) → bad_ends (length parents) (link_in (set_link links c) k) ≡ false
    unfolding net_of bad_ends
    ends_still =
        at_links (λ l. bad_ends (length parents) l ≡ false) a.before.recorded.ends_ok
        (set_is (λ l. bad_ends (length parents) l ≡ false) (a.before.recorded.ends_ok c.link a.there))

    marks_still : (k : ℕ) → k < links_in (set_link links c) → bad_mark (link_in (set_link links c) k).mark ≡ false
    unfolding net_of
    marks_still =
        at_links (λ l. bad_mark l.mark ≡ false) a.before.recorded.marks_ok (set_is (λ l. bad_mark l.mark ≡ false) a.mark_ok)

    parents-still : (u : ℕ) → u < length parents → bad_parent (net_of (set_link links c) parents search) u ≡ false
    unfolding net_of bad_parent
    parents-still u l =
        rw (count_same links c, link_other links c (get_or parents u no_link) (asked_spare u)) (a.before.recorded.parents-ok u l)

    routes_still : (u : ℕ) → u < length parents → Home (tree_of (net_of (set_link links c) parents search)) u
    unfolding net_of
    routes_still u l = subst (λ (t : Tree). Home t u) (sym asked_tree) (a.before.recorded.routes_ok u l)

    -- whether a record breaks shortness in the old tree
    broken : Link → Bool
    broken l = in_service l && not (short (tree_of g) l.first l.second l.length)

    -- a record of the changed network breaks shortness where it does in the old tree
    broken_is : (k : ℕ) → not_short (net_of (set_link links c) parents search) k ≡ broken (link_in (set_link links c) k)
    unfolding net_of not_short broken
    broken_is k = λ i. in_service (link_in (set_link links c) k) && not
        (short (asked_tree i) (link_in (set_link links c) k).first (link_in (set_link links c) k).second (link_in (set_link links c) k).length)

    broken_other : (k : ℕ) → k < links_in links → eqb k c.link ≡ false → not_short (net_of (set_link links c) parents search) k ≡ false
    unfolding net_of not_short broken
    broken_other k l n = broken_is k ∙ (ap broken (link_other links c k n) ∙ a.before.recorded.short_ok k l)

    broken_own : not_short (net_of (set_link links c) parents search) c.link ≡ breaks g c
    unfolding net_of broken breaks in_service
    broken_own = broken_is c.link ∙ ap broken (link_set links c there)

    short_still : breaks g c ≡ false → (k : ℕ) → k < links_in (set_link links c) → not_short (net_of (set_link links c) parents search) k ≡ false
    short_still fits k l = go (eqb k c.link) refl
      where
        go : (b : Bool) → eqb k c.link ≡ b → not_short (net_of (set_link links c) parents search) k ≡ false
        go true q = subst (λ (j : ℕ). not_short (net_of (set_link links c) parents search) j ≡ false) (sym (eqb-true k c.link q)) (broken_own ∙ fits)
        go false q = broken_other k (omega (arith, l, count_same links c)) q

    sized-still : Sized (net_of (set_link links c) parents search)
    unfolding net_of
    sized-still =
        record {
          nodes-ok = a.before.sized.nodes-ok;
          links-ok = rw (count_same links c) a.before.sized.links-ok;
          root_ok = a.before.sized.root_ok;
          depth_ok = a.before.sized.depth_ok;
          rule_ok = a.before.sized.rule_ok;
        }

    -- where the change would not break shortness, the network that it leaves is sound
    pub unbroken_sound : breaks g c ≡ false → Sound (net_of (set_link links c) parents search)
    unfolding net_of
    unbroken_sound fits =
        record {
          sized = sized-still;
          recorded =
              record {
                ends_ok = ends_still;
                marks_ok = marks_still;
                parents-ok = parents-still;
                routes_ok = routes_still;
                short_ok = short_still fits;
              };
        }

    -- and where it would, that network is refused by 9 at the changed link
    pub broken_refused : breaks g c ≡ true → net_verdict (net_of (set_link links c) parents search) ≡ refused NotShort c.link
    unfolding net_verdict record_verdict net_of
    broken_refused b =
        let new = net_of (set_link links c) parents search in
        let below : (k : ℕ) → k < c.link → not_short new k ≡ false =
        λ k l. broken_other k (omega (arith, l, there)) (ne_eqb k c.link (λ q. omega (arith, l, q))) in
        head_passes _ _ (sizes_taken new sized-still)
        ∙ head_refuses _ _ _
        (head_passes _ _ (at_passes _ (links_in (set_link links c)) BadEnds ends_still)
        ∙ (head_passes _ _ (at_passes _ (links_in (set_link links c)) BadMark marks_still)
        ∙ (head_passes _ _ (at_passes (bad_parent new) (length parents) BadParent parents-still)
        ∙ (head_passes _ _ (at_passes (no_route new) (length parents) NoRoute (λ u l. home-not new u (routes_still u l)))
        ∙ head_refuses _ _ _
        (at_refuses (not_short new) (links_in (set_link links c)) NotShort c.link (omega (arith, there, count_same links c))
        (broken_own ∙ b) below)))))

  module _ (c : Change) (a : Allowed g c) where
    pub as_asked : Asked g c
    as_asked = record { before = a.before; there = a.there; mark_ok = a.mark_ok; spare-ok = a.spare-ok }

    pub spare : (u : ℕ) → eqb (g.parent u) c.link ≡ false
    spare = asked_spare c as_asked

    pub kept_tree : tree_of (net_of (set_link links c) parents search) ≡ tree_of g
    kept_tree = asked_tree c as_asked

    -- the network that a change leaves is sound
    pub still_sound : Sound (net_of (set_link links c) parents search)
    still_sound = unbroken_sound c as_asked a.fits
