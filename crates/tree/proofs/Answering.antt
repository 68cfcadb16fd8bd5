-- What is answered of one node, of two, and of all: from the verdicts and climbs of the code to the definitions. Assumes nothing.
use Rattle.std.specs.Prelude.{Err, Ok, Result}
use Rattle.std.proofs.Common.{◌≡◌, ℕ, ◌+◌, ◌*◌, ◌<◌, ◌≤◌, false, ◌&&◌, ltb, List, [], ◌∷◌, ◌++◌, length, drop, sym, refl, ap, ◌∙◌, le_trans, mul-le-mul_right}
use Rattle.std.proofs.Common.{arith, ltb-false, ltb-true, le-ltb}
use lib.Seq.{sets, sets-eq}
use borrow.Author.Tests.{not-false}
use Rattle.edition.specs.declared.Refusal.{Refusal}
use Rattle.edition.specs.Refusals.{Verdict, taken}
use Rattle.edition.specs.declared.Why.TheVariants.{NodeCount, NoRoute, NoRoom}
use Rattle.edition.specs.declared.Search.{Search}
use Rattle.edition.specs.Limits.{node_limit, memory_limits}
use Rattle.rows.specs.Lists.{total}
use Rattle.rows.specs.First.{refuse_if}
use Rattle.rows.specs.Count.{row_with}
use Rattle.rows.proofs.Tests.{and_left, and_right}
use Rattle.rows.proofs.Listed.{total_bound}
use Rattle.rows.proofs.Refusing.{both_taken, none_left, if_passes, head_taken, rest-taken, head_refuses, head_passes, if_taken_lem, only_one}
use Rattle.network.specs.Network.{Net, net_of}
use Rattle.network.specs.Records.{bad_nodes}
use Rattle.tree.specs.declared.Climb.{Climb}
use Rattle.tree.specs.Tree.{Tree, tree_of, climb, route, has_route, dist, meet, apart}
use Rattle.tree.specs.Answers.{room_verdict, row_verdict, distance_row, lost, way_verdict, route_verdict, route_row, route_answer}
use Rattle.tree.specs.Answers.{ways_verdict, meet_answer, apart_answer}
use Rattle.tree.specs.Work.{Rooted, Routed}
use Rattle.tree.proofs.Ways.{Way, top, hop, Home, way, nodes_of_lem, route-length}
use Rattle.tree.proofs.Climbing.{climb-root, climb-up}
use Rattle.network.proofs.Sizes.{nodes-within}

-- n is within the limit
pub few-nodes : (n : ℕ) → bad_nodes memory_limits n ≡ false → n ≤ node_limit
few-nodes n h = nodes-within memory_limits n h

-- what a row that is taken has
pub room-taken : (n room : ℕ) → room_verdict n room ≡ taken → (n ≤ node_limit) × (n ≤ room)
unfolding room_verdict
room-taken n room h =
    (few-nodes n (if_taken_lem _ NodeCount 0 (head_taken _ _ h)), ltb-false room n (if_taken_lem _ NoRoom 0 (head_taken _ _ (rest-taken _ _ h))))

pub room_passes : (n room : ℕ) → bad_nodes memory_limits n ≡ false → n ≤ room → room_verdict n room ≡ taken
unfolding room_verdict
room_passes n room h l =
    both_taken _ _ (if_passes _ NodeCount 0 h) (both_taken _ _ (if_passes _ NoRoom 0 (le-ltb room n l)) none_left)

-- what a node that is taken has
way-taken : (g : Net) (u : ℕ) → way_verdict g u ≡ taken → (g.nodes ≤ node_limit) × (u < g.nodes) × Home (tree_of g) u
unfolding way_verdict lost
way-taken g u h =
    let e = not-false (ltb u g.nodes && has_route (tree_of g) u) (if_taken_lem _ NoRoute u (head_taken _ _ (rest-taken _ _ h))) in (
      few-nodes g.nodes (if_taken_lem _ NodeCount 0 (head_taken _ _ h)),
      ltb-true u g.nodes (and_left (ltb u g.nodes) (has_route (tree_of g) u) e),
      and_right (ltb u g.nodes) (has_route (tree_of g) u) e,
    )

ways_taken : (g : Net) (u z : ℕ) → ways_verdict g u z ≡ taken → (way_verdict g u ≡ taken) × (way_verdict g z ≡ taken)
unfolding ways_verdict
ways_taken g u z h = (head_taken _ _ h, head_taken _ _ (rest-taken _ _ h))

module _ (t : Tree) where
  exact : {u : ℕ} {r : List ℕ} → Way t u r → climb t (length r) u ≡ r
  exact (top {u} e) = climb-root t 0 u e
  exact (hop {u} {r} e w) = climb-up t (length r) u e ∙ ap (λ (l : List ℕ). u ∷ l) (exact w)

  climb_exact : (u k : ℕ) → Home t u → k ≡ length (route t u) → climb t k u ≡ route t u
  climb_exact u k h q = ap (λ (j : ℕ). climb t j u) q ∙ exact (way t u h)

  -- what the recursion wrote of a whole route
  routed_whole :
      (u : ℕ)
      → Home t u → (k : ℕ) → k ≡ length (route t u) → (row after : List ℕ) (r : ℕ) → k ≤ length row
      → Routed t k u 0 row r after → (r ≡ dist t u) × (after ≡ route t u ++ drop (length (route t u)) row)
  unfolding dist
  routed_whole u h k q row after r room s =
      let c = climb_exact u k h q in
      let none : 0 + length (route t u) ≡ length (route t u) = omega arith in (
        s.length-is ∙ ap (total t.rise) c,
        s.row_is ∙ ap (sets row 0) c ∙ sets-eq (route t u) row 0 (omega (arith, q)) ∙
            ap (λ (j : ℕ). route t u ++ drop j row) none,
      )

  -- no distance passes as many of the longest links as there are nodes
  pub dist-small : (most : ℕ) → ((v : ℕ) → t.rise v ≤ most) → (u : ℕ) → dist t u ≤ t.size * most
  unfolding dist
  dist-small most few u =
      le_trans (total_bound t.rise most few (route t u)) (mul-le-mul_right most (route-length t u))

-- the room was found to be enough
pub fits-room : (room k : ℕ) (v : Verdict) → v ≡ refuse_if (ltb room k) NoRoom 0 → v ≡ taken → k ≤ room
fits-room room k v q p = ltb-false room k (if_taken_lem _ NoRoom 0 (sym q ∙ p))

module _ (g : Net) (u : ℕ) (row : List ℕ) where
  -- the route is refused for room
  pub route_tight :
      (k : ℕ)
      → way_verdict g u ≡ taken → k ≡ length (route (tree_of g) u) → (v : Verdict) (r : Refusal) (a : Result ℕ Refusal)
      → v ≡ refuse_if (ltb (length row) k) NoRoom 0 → v ≡ Err r → a ≡ Err r
      → (a ≡ route_answer g u row) × (row ≡ route_row g u row)
  unfolding route_answer route_row route_verdict
  route_tight k t l v r a q p e =
      let w = head_passes (way_verdict g u) _ t ∙ head_refuses _ [] r (sym (q ∙ ap (λ (j : ℕ). refuse_if (ltb (length row) j) NoRoom 0) l) ∙ p) in
      rw w (e, refl)

  -- the route is written
  pub route_written :
      (k : ℕ)
      → way_verdict g u ≡ taken → k ≡ length (route (tree_of g) u) → (v : Verdict)
      → v ≡ refuse_if (ltb (length row) k) NoRoom 0 → v ≡ taken → (d : ℕ) (after : List ℕ)
      → Routed (tree_of g) k u 0 row d after → (Ok d ≡ route_answer g u row) × (after ≡ route_row g u row)
  unfolding route_answer route_row route_verdict
  route_written k t l v q p d after s =
      let w =
      head_passes (way_verdict g u) (refuse_if (ltb (length row) (length (route (tree_of g) u))) NoRoom 0 ∷ []) t
      ∙ only_one _ ∙ sym (q ∙ ap (λ (j : ℕ). refuse_if (ltb (length row) j) NoRoom 0) l) ∙ p in
      let z = routed_whole (tree_of g) u (way-taken g u t).2 k l row after d (fits-room (length row) k v q p) s in
      rw w (ap Ok z.0, z.1)

module _ (g : Net) (u z : ℕ) where
  module _ (t : ways_verdict g u z ≡ taken) (d : ℕ) where
    pub met : d ≡ meet (tree_of g) u z → Ok d ≡ meet_answer g u z
    unfolding meet_answer
    met q = rw t (ap Ok q)

    pub parted : d ≡ apart (tree_of g) u z → Ok d ≡ apart_answer g u z
    unfolding apart_answer
    parted q = rw t (ap Ok q)

module _ (g : Net) (row : List ℕ) where
  pub distances_filled :
      (v : Verdict)
      → v ≡ room_verdict g.nodes (length row) → v ≡ taken → (after : List ℕ)
      → after ≡ row_with (dist (tree_of g)) g.nodes row → (taken ≡ row_verdict g row) × (after ≡ distance_row g row)
  unfolding distance_row
  distances_filled v q p after e = (sym p ∙ q, rw (sym q ∙ p) e)

-- in rows: what a verdict that is taken gives the calls after it
module _ (links parents : List ℕ) (search : Search) where
  abbrev g : Net
  g = net_of links parents search

  pub way-known :
      (u : ℕ) (v : Verdict)
      → v ≡ way_verdict g u → v ≡ taken
      → (length parents ≤ node_limit) × Home (tree_of g) u
  unfolding net_of
  way-known u v q p = let z = way-taken g u (sym q ∙ p) in (z.0, z.2)

  pub ways_known :
      (u z : ℕ) (v : Verdict)
      → v ≡ ways_verdict g u z → v ≡ taken
      → (length parents ≤ node_limit)
      × Home (tree_of g) u × Home (tree_of g) z
  ways_known u z v q p =
      let y = ways_taken g u z (sym q ∙ p) in
      let a = way-known u _ refl y.0 in
      let b = way-known z _ refl y.1 in
      (a.0, a.1, b.1)

  -- the hops of a route, and its nodes
  pub nodes-known :
      (u : ℕ)
      → Home (tree_of g) u → (c : Climb) → Rooted (tree_of g) u c
      → (c.hops + 1 ≡ length (route (tree_of g) u)) × (c.hops + 1 ≤ length parents)
  unfolding tree_of net_of
  nodes-known u h c r =
      let t = tree_of g in
      (omega (arith, r.hops-is, nodes_of_lem t u h), omega (arith, r.hops-is, nodes_of_lem t u h, route-length t u))
