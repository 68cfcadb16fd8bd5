-- The climbs that mark the nodes on the path: each turns the marks of a route, and both together leave 1 on the path between
-- their ends alone. Assumes nothing.
use mathlib.Core.Path.{◌≡◌, refl}
use mathlib.Core.Bool.{Bool, true, false, not, ◌||◌}
use mathlib.Core.List.{List}
use Prim.Native.Nat.{ℕ, ◌<◌, ◌≤◌}
use native.Mathlib.Omega.{arith}
use lib.Dec.{eqb}
use lib.ListN.{length, get_or, replicate, get_or-replicate}
use Rattle.edition.specs.declared.Search.{Search}
use Rattle.edition.specs.Refusals.{taken}
use Rattle.edition.specs.Limits.{node_limit}
use Rattle.rows.specs.Lists.{has, up_to, differ}
use Rattle.rows.proofs.Listed.{up_to-out}
use Rattle.network.specs.Network.{Net, net_of}
use Rattle.tree.specs.Tree.{Tree, tree_of, route, under}
use Rattle.tree.proofs.Ways.{Home, under_self}
use Rattle.tree.proofs.Bounded.{under-below}
use Rattle.tree.proofs.Climbing.{on-parent, shorter, passed_none, passed_more, passed_all}
use Rattle.tree.proofs.InRows.{tree_in, at_root, off_root}
use Rattle.sound.specs.Sound.{net_verdict}
use Rattle.sound.proofs.Sounds.{Sound, sound}
use Rattle.sound.proofs.Holding.{home, up_in}
use Rattle.table.specs.Table.{is_asked}
use Rattle.change.specs.Work.{Moved, flip, flipped_at}
use Rattle.change.proofs.Moving.{moved_none, moved_more}

-- what the loop keeps
pub record Flipping (t : Tree) (u : ℕ) (before : List ℕ) (c : ℕ) (after : List ℕ) : Type 0 where
  pub on : under t c u ≡ true
  pub turned : Moved (λ x. has x (up_to c (route t u))) flip before after

module _ (links parents : List ℕ) (search : Search) where
  abbrev g : Net
  g = net_of links parents search

  module _ (ok : net_verdict g ≡ taken) (u : ℕ) (low : u < length parents) (before : List ℕ) (room : length parents ≤ length before) where
    s : Sound g
    s = sound g ok

    hu : Home (tree_in links parents search) u
    unfolding net_of
    hu = home g s u low

    pub flip-start : Flipping (tree_in links parents search) u before u before
    flip-start =
        record {
          on = under_self (tree_in links parents search) u hu;
          turned = moved_none _ _ before (passed_none (tree_in links parents search) u hu);
        }

    module _ (c : ℕ) (after : List ℕ) (i : Flipping (tree_in links parents search) u before c after) where
      pub flip-room : c < length after
      unfolding tree_of net_of
      flip-room =
          omega (arith, i.turned.size, room, under-below (tree_in links parents search) (up_in g s) u c hu low i.on)

      module _ (next : List ℕ) (h : next ≡ flipped_at c after) where
        turn : (done : ℕ → Bool) → ((x : ℕ) → done x ≡ (has x (up_to c (route (tree_in links parents search) u)) || eqb c x)) → Moved done flip before next
        unfolding flipped_at
        turn done q = rw h (moved_more flip _ done before after c _ i.turned flip-room (up_to-out c (route (tree_in links parents search) u)) q refl)

        pub flip-more : (c ≡ search.root → ⊥) → (d : ℕ) → d ≡ (tree_in links parents search).up c → Flipping (tree_in links parents search) u before d next
        flip-more n d q =
            let r = off_root links parents search c n in
            rw q
            (record {
              on = on-parent (tree_in links parents search) u hu c i.on r;
              turned = turn _ (passed_more (tree_in links parents search) u hu c i.on r);
            })

        pub flip_less :
            (c ≡ search.root → ⊥)
            → (d : ℕ) → d ≡ (tree_in links parents search).up c
            → length (route (tree_in links parents search) d) < length (route (tree_in links parents search) c)
        flip_less n d q = rw q (omega (arith, shorter (tree_in links parents search) u hu c i.on (off_root links parents search c n)))

        pub flip-end : c ≡ search.root → Moved (λ x. under (tree_in links parents search) x u) flip before next
        flip-end e = turn _ (passed_all (tree_in links parents search) u hu c i.on (at_root links parents search c e))

-- two climbs over a row of zeros
pub turned_twice :
    (p q : ℕ → Bool) (one two : List ℕ)
    → Moved p flip (replicate node_limit 0) one → Moved q flip one two → (x : ℕ) → x < node_limit
    → is_asked two x ≡ differ (p x) (q x)
unfolding is_asked flip
turned_twice p q one two m n x l = go (p x) (q x) refl refl
  where
    go : (a b : Bool) → p x ≡ a → q x ≡ b → not (eqb (get_or two x 0) 0) ≡ differ (p x) (q x)
    go true true e f = rw (n.each x, m.each x, get_or-replicate {A = ℕ} node_limit x 0 0 l, e, f)
    go true false e f = rw (n.each x, m.each x, get_or-replicate {A = ℕ} node_limit x 0 0 l, e, f)
    go false true e f = rw (n.each x, m.each x, get_or-replicate {A = ℕ} node_limit x 0 0 l, e, f)
    go false false e f = rw (n.each x, m.each x, get_or-replicate {A = ℕ} node_limit x 0 0 l, e, f)
