-- What a survey of a sound network says of a node, and how large its numbers can be. Assumes nothing.
use Rattle.std.proofs.Common.{◌≡◌, ℕ, ◌+◌, ◌-◌, ◌*◌, ◌<◌, ◌≤◌, List, length, refl, ap, ◌∙◌, le_trans, mul-le-mul_right, mul-le-mul, arith}
use Rattle.edition.specs.Limits.{node_limit, longest}
use Rattle.rows.specs.Count.{only_if}
use Rattle.rows.proofs.Counting.{sum_bound, max_bound, only_small}
use Rattle.rows.proofs.Listed.{total_bound}
use Rattle.network.specs.Network.{Net}
use Rattle.tree.specs.Tree.{tree_of, route, dist, inside}
use Rattle.tree.proofs.Ways.{Home, route-length}
use Rattle.tree.proofs.Answering.{dist-small}
use Rattle.survey.specs.declared.Known.{Known}
use Rattle.survey.specs.Known.{count, weight, deepest, beside, aside, stem_at, stem, base, turn, known}
use Rattle.survey.specs.Row.{nodes_in, known_at}
use Rattle.sound.specs.Surveyed.{Surveyed}
use Rattle.sound.proofs.Sounds.{Sound, sound}
use Rattle.survey.proofs.Inside.{inside-small}
use Rattle.sound.proofs.Holding.{nodes-few, home, up_in}

-- the largest that a product of a count and a distance can be
abbrev pub most : ℕ
most = node_limit * (node_limit * longest)

module _ {g : Net} {row : List ℕ} (s : Surveyed g row) where
  pub fine : Sound g
  fine = sound g s.is_taken

  pub size_is : (tree_of g).size ≡ g.nodes
  unfolding tree_of
  size_is = refl

  pub small : (tree_of g).size ≤ node_limit
  unfolding tree_of
  small = nodes-few g fine

  pub in_tree : (x : ℕ) → x < g.nodes → x < (tree_of g).size
  in_tree x l = rw size_is l

  pub homes : (x : ℕ) → x < (tree_of g).size → Home (tree_of g) x
  unfolding tree_of
  homes = home g fine

  pub closed : (x : ℕ) → x < (tree_of g).size → (tree_of g).up x < (tree_of g).size
  closed = up_in g fine

  -- what the row says
  module _ (x : ℕ) (l : x < g.nodes) where
    pub there : x < nodes_in row
    there = omega (arith, s.room)

    module _ (k : Known) (q : k ≡ known_at row x) where
      said : k ≡ known (tree_of g) x
      said = q ∙ s.each x l

      pub up_is : k.up ≡ (tree_of g).up x
      unfolding known
      up_is = ap (λ (z : Known). z.up) said

      pub near_is : k.near ≡ dist (tree_of g) x
      unfolding known
      near_is = ap (λ (z : Known). z.near) said

      pub count-is : k.count ≡ count (tree_of g) x
      unfolding known
      count-is = ap (λ (z : Known). z.count) said

      pub base-is : k.base ≡ base (tree_of g) x
      unfolding known
      base-is = ap (λ (z : Known). z.base) said

      pub turn_is : k.turn ≡ turn (tree_of g) x
      unfolding known
      turn_is = ap (λ (z : Known). z.turn) said

      pub deep_is : k.deep ≡ deepest (tree_of g) x
      unfolding known
      deep_is = ap (λ (z : Known). z.deep) said

      pub beside-is : k.beside ≡ aside (tree_of g) x
      unfolding known
      beside-is = ap (λ (z : Known). z.beside) said

  -- no distance is over what 512 links can be long
  pub dist-few : (u : ℕ) → dist (tree_of g) u ≤ node_limit * longest
  dist-few u = le_trans (dist-small (tree_of g) longest s.few u) (mul-le-mul_right longest small)

  pub aside-few : (x : ℕ) → aside (tree_of g) x ≤ node_limit * longest
  unfolding aside
  aside-few x =
      max_bound (λ u. only_if (beside (tree_of g) x u) (dist (tree_of g) u)) (tree_of g).size (node_limit * longest)
      (λ u l. only_small (beside (tree_of g) x u) (dist (tree_of g) u) (node_limit * longest) (λ e. dist-few u))

  -- no subtree has more nodes than there are
  pub count-few : (x : ℕ) → count (tree_of g) x ≤ node_limit
  unfolding count
  count-few x =
      omega (
        arith,
        small,
        sum_bound (inside (tree_of g) x (λ u. 1)) (tree_of g).size 1 (λ j l. inside-small (tree_of g) x (λ u. 1) j 1 (λ e. omega arith)),
      )

  stem_at_few : (v : ℕ) → stem_at (tree_of g) v ≤ most
  unfolding stem_at
  stem_at_few v =
      let less : count (tree_of g) ((tree_of g).up v) - count (tree_of g) v ≤ node_limit = omega (arith, count-few ((tree_of g).up v)) in
      mul-le-mul less (dist-few ((tree_of g).up v))

  stem-few : (x : ℕ) → stem (tree_of g) x ≤ node_limit * most
  unfolding stem
  stem-few x =
      let k : length (route (tree_of g) x) ≤ node_limit = omega (arith, route-length (tree_of g) x, small) in
      omega (arith, total_bound (stem_at (tree_of g)) most stem_at_few (route (tree_of g) x))

  weight-few : (x : ℕ) → weight (tree_of g) x ≤ most
  unfolding weight
  weight-few x =
      omega (
        arith,
        sum_bound (inside (tree_of g) x (dist (tree_of g))) (tree_of g).size (node_limit * longest)
            (λ j i. inside-small (tree_of g) x (dist (tree_of g)) j (node_limit * longest) (λ e. dist-few j)),
        small,
      )

  pub base-few : (x : ℕ) → base (tree_of g) x ≤ most + 2 * (node_limit * most)
  unfolding base
  base-few x = omega (arith, weight-few x, stem-few x)
