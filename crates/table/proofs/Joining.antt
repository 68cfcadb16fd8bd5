-- The ranks of all nodes, from the first ones: a climb to the first node that has one, and a climb that writes it. Assumes nothing.
use Rattle.std.proofs.Common.{◌≡◌, ℕ, ◌+◌, ◌-◌, ◌*◌, ◌^◌, ◌<◌, ◌≤◌, Bool, true, false, eqb, List, length, get_or, set, replicate, sym, refl, ap, ◌∙◌, subst}
use Rattle.std.proofs.Common.{add-one, arith, length-set, get_or-set_other, get_or-set_same, eq-eqb, ne_eqb, eqb-true}
use lib.ListN.{length-replicate}
use borrow.Author.Tests.{eqb-false}
use Rattle.edition.specs.declared.Search.{Search}
use Rattle.edition.specs.Limits.{node_limit, no_node}
use Rattle.rows.specs.Count.{row_with}
use Rattle.rows.proofs.Tests.{lastly}
use Rattle.rows.proofs.Filling.{fill_length, filled_at}
use Rattle.network.specs.Network.{Net, net_of}
use Rattle.tree.specs.Tree.{tree_of}
use Rattle.survey.specs.declared.Known.{Known}
use Rattle.survey.specs.Known.{count}
use Rattle.survey.specs.Row.{nodes_in, known_at}
use Rattle.sound.specs.Surveyed.{Surveyed}
use Rattle.sound.proofs.Holding.{nodes-few, root_in}
use Rattle.table.specs.Table.{is_asked}
use Rattle.table.specs.Work.{rank_step, rank_of, rank, Ranked, Weighed, first_rank, Partly, Upward, Joined, Ranking}
use Rattle.table.proofs.Surveys.{fine, size_is, in_tree, homes, closed, small, there, up_is, count-is, count-few}
use Rattle.table.proofs.TwoSides.{count_rises}
use Rattle.table.proofs.Ranks.{rank_of_some, rank_some, rank-own, rank_up, rank-top}

-- the first ranks
module _ (survey asked : List ℕ) (root x : ℕ) where
  pub first_asked : is_asked asked x ≡ true → first_rank survey asked root x ≡ rank_of (known_at survey x).count x
  unfolding first_rank
  first_asked e = rw e

  pub first-root : is_asked asked x ≡ false → x ≡ root → first_rank survey asked root x ≡ no_node * rank_step
  unfolding first_rank
  first-root e q = rw (e, eq-eqb x root q)

  pub first-none : is_asked asked x ≡ false → (x ≡ root → ⊥) → first_rank survey asked root x ≡ 0
  unfolding first_rank
  first-none e n = rw (e, ne_eqb x root n)

-- a node of a surveyed network can be ranked
pub weighed : {g : Net} {survey : List ℕ} → Surveyed g survey → (x : ℕ) → x < g.nodes → Weighed survey x
weighed s x l =
    record {
      there = there s x l;
      low = omega (arith, small s, size_is s, l);
      few = omega (arith, count-is s x l _ refl, count-few s x);
    }

-- a row of zeros has room for the ranks of any sound network
pub ranking :
    (links parents : List ℕ) (search : Search) {survey : List ℕ}
    → Surveyed (net_of links parents search) survey
    → Ranking (net_of links parents search) survey search.root (length parents) (replicate node_limit 0)
unfolding net_of
ranking links parents search s =
    record {
      surveyed = s;
      root_is = refl;
      nodes-is = refl;
      room = omega (arith, length-replicate {A = ℕ} node_limit 0, nodes-few (net_of links parents search) (fine s));
    }

module _ {g : Net} {survey : List ℕ} {root n : ℕ} {row : List ℕ} (h : Ranking g survey root n row) (asked : List ℕ) where
  pub few_ranks : (x : ℕ) → x < n → Weighed survey x
  few_ranks x l = weighed h.surveyed x (omega (arith, h.nodes-is, l))

  module _ {row' : List ℕ} (q : row' ≡ row_with (first_rank survey asked root) n row) where
    first_at : (x : ℕ) → x < g.nodes → get_or row' x 0 ≡ first_rank survey asked root x
    first_at x l =
        ap (λ (r : List ℕ). get_or r x 0) q ∙ filled_at (first_rank survey asked root) n row x (omega (arith, h.nodes-is))

    root_at : (tree_of g).root ≡ root
    unfolding tree_of
    root_at = h.root_is

    known_at_lem :
        (x : ℕ)
        → x < g.nodes → (a : Bool) → is_asked asked x ≡ a → (r : Bool) → eqb x root ≡ r
        → (first_rank survey asked root x ≡ 0 → ⊥) → first_rank survey asked root x ≡ rank (tree_of g) asked x
    known_at_lem x l true e r z m =
        first_asked survey asked root x e
        ∙ ap (λ (c : ℕ). rank_of c x) (count-is h.surveyed x l _ refl)
        ∙ sym (rank-own (tree_of g) asked x (homes h.surveyed x (in_tree h.surveyed x l)) e)
    known_at_lem x l false e true z m =
        first-root survey asked root x e (eqb-true x root z) ∙
        sym (rank-top (tree_of g) asked x (homes h.surveyed x (in_tree h.surveyed x l)) e (rw root_at z))
    known_at_lem x l false e false z m = absurd (m (first-none survey asked root x e (eqb-false x root z)))

    free_at : (x : ℕ) (a : Bool) → is_asked asked x ≡ a → first_rank survey asked root x ≡ 0 → is_asked asked x ≡ false
    free_at x true e z = absurd (rank_of_some _ _ (sym (first_asked survey asked root x e) ∙ z))
    free_at x false e z = e

    top_at : (a : Bool) → is_asked asked root ≡ a → first_rank survey asked root root ≡ 0 → ⊥
    top_at true e z = rank_of_some _ _ (sym (first_asked survey asked root root e) ∙ z)
    top_at false e z = omega (arith, first-root survey asked root root e refl)

    pub partly-start : Partly g asked survey row'
    partly-start =
        record {
          surveyed = h.surveyed;
          room = omega (arith, ap length q ∙ fill_length (first_rank survey asked root) row n h.room, h.room, h.nodes-is);
          known =
              λ x l m. first_at x l ∙ known_at_lem x l (is_asked asked x) refl (eqb x root) refl (λ z. m (first_at x l ∙ z));
          free = λ x l z. free_at x (is_asked asked x) refl (sym (first_at x l) ∙ z);
          top =
              λ z. top_at (is_asked asked root) refl
              (subst (λ (v : ℕ). first_rank survey asked root v ≡ 0) h.root_is
              (sym (first_at g.search.root (root_in g (fine h.surveyed))) ∙ z));
        }

-- how many more nodes a parent can have below it
abbrev pub room-up : List ℕ → ℕ → ℕ
room-up survey c = node_limit - (known_at survey c).count

-- one step of a climb, from a node that has no rank yet
module _ {g : Net} {asked survey row : List ℕ} (p : Partly g asked survey row) {c : ℕ} (l : c < g.nodes) where
  pub here-low : c < length row
  here-low = omega (arith, p.room)

  pub here-few : c < node_limit
  here-few = omega (arith, small p.surveyed, size_is p.surveyed)

  pub here-there : c < nodes_in survey
  here-there = there p.surveyed c l

  module _ (z : get_or row c 0 ≡ 0) {k : Known} (q : k ≡ known_at survey c) where
    not_top : c ≡ g.search.root → ⊥
    not_top e = p.top (subst (λ (v : ℕ). get_or row v 0 ≡ 0) e z)

    off : eqb c (tree_of g).root ≡ false
    unfolding tree_of
    off = ne_eqb c g.search.root not_top

    next : k.up ≡ (tree_of g).up c
    next = up_is p.surveyed c l k q

    c_in : c < (tree_of g).size
    c_in = in_tree p.surveyed c l

    up_in : (tree_of g).up c < (tree_of g).size
    up_in = closed p.surveyed c c_in

    pub up-low : k.up < g.nodes
    up-low = omega (arith, next, up_in, size_is p.surveyed)

    pub up_fits : k.up < 2 ^ 64
    up_fits = omega (arith, up-low, small p.surveyed, size_is p.surveyed)

    pub same_rank : rank (tree_of g) asked k.up ≡ rank (tree_of g) asked c
    same_rank = ap (rank (tree_of g) asked) next ∙ sym (rank_up (tree_of g) asked c (homes p.surveyed c c_in) (p.free c l z) off)

    rises : count (tree_of g) c < count (tree_of g) k.up
    rises = rw next (count_rises (tree_of g) (homes p.surveyed) c c_in up_in off)

    pub climbs : room-up survey k.up < room-up survey c
    climbs =
        omega (
          arith,
          count-is p.surveyed c l (known_at survey c) refl,
          count-is p.surveyed k.up up-low (known_at survey k.up) refl,
          rises,
          count-few p.surveyed k.up,
        )

-- the climb that looks
pub record Looking (g : Net) (asked : List ℕ) (u c : ℕ) : Type 0 where
  pub low : c < g.nodes
  pub same : rank (tree_of g) asked c ≡ rank (tree_of g) asked u

module _ {g : Net} {asked survey row : List ℕ} {u : ℕ} (h : Upward g asked survey row u) where
  pub looking_start : Looking g asked u u
  looking_start = record { low = h.low; same = refl }

  module _ {c : ℕ} (i : Looking g asked u c) where
    pub looking_more : get_or row c 0 ≡ 0 → {k : Known} → k ≡ known_at survey c → Looking g asked u k.up
    looking_more z q = record { low = up-low h.partly i.low z q; same = same_rank h.partly i.low z q ∙ i.same }

    pub looking_end : (get_or row c 0 ≡ 0 → ⊥) → get_or row c 0 ≡ rank (tree_of g) asked u
    looking_end n = h.partly.known c i.low n ∙ i.same

-- the climb that writes
pub record Writing (g : Net) (asked survey : List ℕ) (u : ℕ) (before : List ℕ) (c : ℕ) (row : List ℕ) : Type 0 where
  pub partly : Partly g asked survey row
  pub size : length row ≡ length before
  pub low : c < g.nodes
  pub same : rank (tree_of g) asked c ≡ rank (tree_of g) asked u
  begun : get_or row u 0 ≡ 0 → c ≡ u
  still : (v : ℕ) → (get_or before v 0 ≡ 0 → ⊥) → get_or row v 0 ≡ 0 → ⊥

-- what holds of the number written and of every other holds of all
written :
    (row : List ℕ) (c a : ℕ)
    → c < length row → (P : ℕ → ℕ → Type 0) → P c a → ((v : ℕ) → P v (get_or row v 0)) → (v : ℕ)
    → P v (get_or (set row c a) v 0)
written row c a l P p q v = go (eqb v c) refl
  where
    go : (b : Bool) → eqb v c ≡ b → P v (get_or (set row c a) v 0)
    go true e = rw (eqb-true v c e, get_or-set_same row c a 0 l) p
    go false e = rw (get_or-set_other row c v a 0 (λ z. eqb-false v c e z)) (q v)

module _ {g : Net} {asked survey before : List ℕ} {u a : ℕ} (h : Upward g asked survey before u) (aq : a ≡ rank (tree_of g) asked u) where
  pub writing_start : Writing g asked survey u before u before
  writing_start =
      record { partly = h.partly; size = refl; low = h.low; same = refl; begun = λ z. refl; still = λ v n z. n z }

  some_a : a ≡ 0 → ⊥
  some_a z = rank_some (tree_of g) asked u (sym aq ∙ z)

  module _ {c : ℕ} {row : List ℕ} (i : Writing g asked survey u before c row) where
    pub writing_more :
        get_or row c 0 ≡ 0
        → {k : Known} → k ≡ known_at survey c → Writing g asked survey u before k.up (set row c a)
    writing_more z {k} q =
        let room = here-low i.partly i.low in
        record {
          partly =
              record {
                surveyed = i.partly.surveyed;
                room = omega (arith, length-set row c a, i.partly.room);
                known =
                    written row c a room (λ v w. v < g.nodes → (w ≡ 0 → ⊥) → w ≡ rank (tree_of g) asked v)
                    (λ l n. aq ∙ sym i.same) i.partly.known;
                free = written row c a room (λ v w. v < g.nodes → w ≡ 0 → is_asked asked v ≡ false) (λ l e. absurd (some_a e)) i.partly.free;
                top =
                    written row c a room (λ v w. v ≡ g.search.root → w ≡ 0 → ⊥) (λ e. some_a)
                    (λ v e. subst (λ (y : ℕ). get_or row y 0 ≡ 0 → ⊥) (sym e) i.partly.top) g.search.root refl;
              };
          size = length-set row c a ∙ i.size;
          low = up-low i.partly i.low z q;
          same = same_rank i.partly i.low z q ∙ i.same;
          begun = λ y. absurd (done y);
          still = written row c a room (λ v w. (get_or before v 0 ≡ 0 → ⊥) → w ≡ 0 → ⊥) (λ n. some_a) i.still;
        }
      where
        done : get_or (set row c a) u 0 ≡ 0 → ⊥
        done y = go (eqb c u) refl
          where
            go : (b : Bool) → eqb c u ≡ b → ⊥
            go true e =
                some_a
                (sym (get_or-set_same row c a 0 (here-low i.partly i.low)) ∙ ap (λ (v : ℕ). get_or (set row c a) v 0) (eqb-true c u e) ∙ y)
            go false e =
                let n : u ≡ c → ⊥ = λ w. eqb-false c u e (sym w) in
                n (sym (i.begun (sym (get_or-set_other row c u a 0 n) ∙ y)))

    pub writing_end : (get_or row c 0 ≡ 0 → ⊥) → Joined g asked survey u before row
    writing_end n =
        record {
          partly = i.partly;
          has = λ z. n (ap (λ (v : ℕ). get_or row v 0) (i.begun z) ∙ z);
          still = i.still;
        }

-- all nodes in turn
pub record Turning (g : Net) (asked survey before : List ℕ) (u : ℕ) (row : List ℕ) : Type 0 where
  pub partly : Partly g asked survey row
  pub size : length row ≡ length before
  done : (v : ℕ) → v < u → get_or row v 0 ≡ 0 → ⊥

module _ {g : Net} {asked survey before : List ℕ} {n : ℕ} (p : Partly g asked survey before) (m : g.nodes ≡ n) where
  pub turning_start : Turning g asked survey before 0 before
  turning_start = record { partly = p; size = refl; done = λ v l. absurd (omega arith) }

  module _ {u : ℕ} {row : List ℕ} (i : Turning g asked survey before u row) where
    pub turning_up : u < n → Upward g asked survey row u
    turning_up l = record { partly = i.partly; low = omega (arith, m) }

    pub turning_more : {row' : List ℕ} → Joined g asked survey u row row' → length row' ≡ length row → Turning g asked survey before (u + 1) row'
    turning_more {row'} j s =
        rw (add-one u)
        (record {
          partly = j.partly;
          size = s ∙ i.size;
          done = lastly (λ v. get_or row' v 0 ≡ 0 → ⊥) u (λ v l. j.still v (i.done v l)) j.has;
        })

    pub turning_end : n ≤ u → Ranked (tree_of g) asked row
    turning_end l =
        record {
          room = omega (arith, i.partly.room, size_is i.partly.surveyed);
          each =
              λ v k.
              let low : v < g.nodes = omega (arith, size_is i.partly.surveyed) in
              i.partly.known v low (i.done v (omega (arith, m)));
        }
