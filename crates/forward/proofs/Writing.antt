-- The loops that write nodes into a row: up from u to x, and, from the last place back, down from x to z. Assumes nothing.
use mathlib.Core.Path.{◌≡◌, refl, sym, ap, ◌∙◌}
use mathlib.Core.Bool.{Bool, true, false}
use mathlib.Core.List.{List, [], ◌∷◌, ◌++◌, reverse, reverse-append}
use Prim.Native.Nat.{ℕ, suc, ◌+◌, ◌-◌, ◌<◌, ◌≤◌}
use native.Mathlib.Omega.{arith}
use lib.Dec.{eqb}
use lib.ListN.{length, set, length-set, length-append}
use lib.Seq.{sets, length-sets}
use borrow.Author.Tests.{eqb-true, eqb-false}
use Rattle.edition.specs.Limits.{node_limit, route_room}
use Rattle.rows.specs.Lists.{up_to}
use Rattle.network.specs.Network.{Net}
use Rattle.tree.specs.Tree.{tree_of, route, under, hops}
use Rattle.tree.proofs.Ways.{Home, under_self, under_trans, hops-cut, route-length}
use Rattle.tree.proofs.Climbing.{start-cut, way_on, up_above}
use Rattle.sound.proofs.Holding.{nodes-few}
use Rattle.forward.specs.Work.{Node, Upward}
use Rattle.forward.proofs.Storing.{sets_append, sets_front}
use Rattle.forward.proofs.Nodes.{fine, homed, size_few, above, hops-sum, not_top, next_on, hops_next, route_less}

module _ (g : Net) where
  -- a number that a node of 16 bits holds
  pub fits : {u : ℕ} → Node g u → u < node_limit
  fits n = omega (arith, n.low, nodes-few g (fine g n))

  -- there are no more hops than nodes
  hops-low : (x : ℕ) {u : ℕ} → Node g u → under (tree_of g) x u ≡ true → hops (tree_of g) x u ≤ node_limit
  hops-low x {u} n p = omega (arith, hops-cut (tree_of g) u x (homed g n) p, route-length (tree_of g) u, size_few g n)

  -- no hops are left at x itself
  pub hops-none : {x : ℕ} → Node g x → hops (tree_of g) x x ≡ 0
  unfolding hops
  hops-none {x} n = ap length (start-cut (tree_of g) x (homed g n))

  -- a climb from u that is at c, on the way to x
  pub record Passing (x u c : ℕ) : Type 0 where
    pub from : Upward g x u
    pub on : under (tree_of g) c u ≡ true
    pub over : under (tree_of g) x c ≡ true

  pub passing_start : (x u : ℕ) → Upward g x u → Passing x u u
  passing_start x u w = record { from = w; on = under_self (tree_of g) u (homed g w.node); over = w.on }

  module _ {x u c : ℕ} (p : Passing x u c) where
    pub here : Upward g x c
    here = record { node = above g p.from.node c p.on; on = p.over }

    hops-here : hops (tree_of g) x u ≡ hops (tree_of g) c u + hops (tree_of g) x c
    hops-here = hops-sum g x c p.from.node p.on p.over

    module _ (off : c ≡ x → ⊥) {c' : ℕ} (q : c' ≡ (tree_of g).up c) where
      hc : Home (tree_of g) c
      hc = homed g here.node

      pub passing_more : Passing x u c'
      passing_more =
          rw q
          (record {
            from = p.from;
            on =
                under_trans (tree_of g) c ((tree_of g).up c) u (homed g p.from.node) p.on
                (up_above (tree_of g) c hc c (under_self (tree_of g) c hc) (not_top g here off));
            over = next_on g here off;
          })

      pub passing_less : length (route (tree_of g) c') < length (route (tree_of g) c)
      passing_less = rw q (route_less g here off)

      -- one node more is behind it
      way-more : up_to c' (route (tree_of g) u) ≡ up_to c (route (tree_of g) u) ++ (c ∷ [])
      way-more = rw q (way_on (tree_of g) u (homed g p.from.node) c p.on (not_top g here off))

      hops-more : hops (tree_of g) c' u ≡ hops (tree_of g) c u + 1
      unfolding hops
      hops-more = omega (arith, ap length way-more, length-append (up_to c (route (tree_of g) u)) (c ∷ []))

      left_more : hops (tree_of g) x c ≡ suc (hops (tree_of g) x c')
      left_more = rw q (hops_next g here off)

  -- upward: what is behind it is written from `at` on, and the next place is k
  pub record Rising (x u at : ℕ) (row : List ℕ) (c k : ℕ) (row' : List ℕ) : Type 0 where
    pub passing : Passing x u c
    pub low : at ≤ route_room
    pub room : at + hops (tree_of g) x u < length row
    pub place : k ≡ at + hops (tree_of g) c u
    pub row_is : row' ≡ sets row at (up_to c (route (tree_of g) u))

  pub rising-start :
      (x u at : ℕ) (row : List ℕ)
      → Upward g x u → at ≤ route_room → at + hops (tree_of g) x u < length row → Rising x u at row u at row
  rising-start x u at row w o l =
      record {
        passing = passing_start x u w;
        low = o;
        room = l;
        place = omega (arith, hops-none w.node);
        row_is = sym (ap (sets row at) (start-cut (tree_of g) u (homed g w.node)));
      }

  module _ {x u at : ℕ} {row : List ℕ} {c k : ℕ} {row' : List ℕ} (r : Rising x u at row c k row') where
    pub rising-length : length row' ≡ length row
    rising-length = ap length r.row_is ∙ length-sets row at (up_to c (route (tree_of g) u))

    pub rising_last : (v : ℕ) → length (set row' k v) ≡ length row
    rising_last v = length-set row' k v ∙ rising-length

    pub rising-room : k < length row'
    rising-room = omega (arith, rising-length, r.room, r.place, hops-here r.passing)

    pub rising-low : k ≤ route_room + node_limit
    rising-low = omega (arith, r.low, r.place, hops-low c r.passing.from.node r.passing.on)

    pub rising-node : c < node_limit
    rising-node = fits (here r.passing).node

    stored : (v : ℕ) → set row' k v ≡ sets row at (up_to c (route (tree_of g) u) ++ (v ∷ []))
    unfolding hops
    stored v =
        rw (r.row_is, r.place) (sym (sets_append row at (up_to c (route (tree_of g) u)) (v ∷ [])))

    module _ (off : c ≡ x → ⊥) {c' : ℕ} (q : c' ≡ (tree_of g).up c) where
      pub rising-more : Rising x u at row c' (k + 1) (set row' k c)
      rising-more =
          record {
            passing = passing_more r.passing off q;
            low = r.low;
            room = r.room;
            place = omega (arith, r.place, hops-more r.passing off q);
            row_is = stored c ∙ ap (sets row at) (sym (way-more r.passing off q));
          }

      pub rising_less : length (route (tree_of g) c') < length (route (tree_of g) c)
      rising_less = passing_less r.passing off q

    pub rising-end : c ≡ x → set row' k x ≡ sets row at (up_to x (route (tree_of g) u) ++ (x ∷ []))
    rising-end q = stored x ∙ ap (λ (v : ℕ). sets row at (up_to v (route (tree_of g) u) ++ (x ∷ []))) q

  -- downward: what is behind it is written backwards, up to the place before which `left` are left
  pub record Falling (x z at : ℕ) (row : List ℕ) (c left : ℕ) (row' : List ℕ) : Type 0 where
    pub passing : Passing x z c
    pub low : at ≤ route_room
    pub room : at + left ≤ length row
    pub left_is : left ≡ hops (tree_of g) x c
    pub row_is : row' ≡ sets row (at + left) (reverse (up_to c (route (tree_of g) z)))

  pub falling_start :
      (x z at far : ℕ) (row : List ℕ)
      → Upward g x z → far ≡ hops (tree_of g) x z → at ≤ route_room → at + far ≤ length row → Falling x z at row z far row
  falling_start x z at far row w q o l =
      record {
        passing = passing_start x z w;
        low = o;
        room = l;
        left_is = q;
        row_is = sym (ap (λ (v : List ℕ). sets row (at + far) (reverse v)) (start-cut (tree_of g) z (homed g w.node)));
      }

  module _ {x z at : ℕ} {row : List ℕ} {c left : ℕ} {row' : List ℕ} (f : Falling x z at row c left row') where
    pub falling_length : length row' ≡ length row
    falling_length = ap length f.row_is ∙ length-sets row (at + left) (reverse (up_to c (route (tree_of g) z)))

    pub falling_node : c < node_limit
    falling_node = fits (here f.passing).node

    -- it is at x exactly where nothing is left
    at_top : c ≡ x → left ≡ 0
    at_top q = f.left_is ∙ ap (hops (tree_of g) x) q ∙ hops-none (above g (here f.passing).node x f.passing.over)

    none_left : left ≡ 0 → c ≡ x
    none_left n = go (eqb c x) refl
      where
        go : (b : Bool) → eqb c x ≡ b → c ≡ x
        go true p = eqb-true c x p
        go false p = absurd (omega (arith, n, f.left_is, hops_next g (here f.passing) (eqb-false c x p)))

    module _ (some : 0 < left) where
      off : c ≡ x → ⊥
      off q = omega (arith, some, at_top q)

      pub falling_room : at + (left - 1) < length row'
      falling_room = omega (arith, f.room, falling_length, some)

      module _ {c' : ℕ} (q : c' ≡ (tree_of g).up c) where
        behind : reverse (up_to c' (route (tree_of g) z)) ≡ c ∷ reverse (up_to c (route (tree_of g) z))
        behind = ap reverse (way-more f.passing off q) ∙ reverse-append (up_to c (route (tree_of g) z)) (c ∷ [])

        pub falling_more : Falling x z at row c' (left - 1) (set row' (at + (left - 1)) c)
        falling_more =
            record {
              passing = passing_more f.passing off q;
              low = f.low;
              room = omega (arith, f.room);
              left_is = omega (arith, f.left_is, left_more f.passing off q);
              row_is =
                  ap (λ (r : List ℕ). set r (at + (left - 1)) c)
                  (f.row_is ∙ ap (λ (i : ℕ). sets row i (reverse (up_to c (route (tree_of g) z)))) (omega (arith, some)))
                  ∙ sets_front row (at + (left - 1)) (reverse (up_to c (route (tree_of g) z))) c
                  ∙ ap (sets row (at + (left - 1))) (sym behind);
            }

    pub falling_end : left ≡ 0 → row' ≡ sets row at (reverse (up_to x (route (tree_of g) z)))
    falling_end none =
        f.row_is
        ∙ ap (λ (i : ℕ). sets row i (reverse (up_to c (route (tree_of g) z)))) (omega (arith, none))
        ∙ ap (λ (v : ℕ). sets row at (reverse (up_to v (route (tree_of g) z)))) (none_left none)
