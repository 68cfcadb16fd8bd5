-- The map does not depend on the tie rule: under either rule the call says and leaves the same. Assumes nothing.
use mathlib.Core.Path.{◌≡◌}
use mathlib.Core.Bool.{false}
use mathlib.Core.List.{List, [], ◌∷◌}
use Prim.Native.Nat.{ℕ, ◌+◌, ◌*◌, ◌^◌}
use Rattle.edition.specs.Limits.{no_node, map_words, word_bits}
use Rattle.rows.specs.Count.{only_if, sum_to, rows_to}
use Rattle.rows.specs.First.{first_to, found_or}
use Rattle.network.specs.Network.{Net}
use Rattle.network.specs.Records.{bad_rule}
use Rattle.swap.proofs.Rules.{at_rule, verdict_same, state-same}
use Rattle.map.specs.Map.{unprotected, word, map_of, count_unprotected, lowest, told_of, map_verdict, map_answer, map_row}

module _ (g : Net) (rule : ℕ) where
  open_same : (x : ℕ) → unprotected (at_rule g rule) x ≡ unprotected g x
  unfolding unprotected at_rule
  open_same x = rw (state-same g rule x)

  tests_same : unprotected (at_rule g rule) ≡ unprotected g
  tests_same = λ i x. open_same x i

  -- the words, the number of ones and the lowest
  pub map_same : map_of (at_rule g rule) ≡ map_of g
  unfolding map_of word
  map_same = λ i. rows_to (λ j. sum_to (λ k. only_if (tests_same i (j * word_bits + k)) (2 ^ k)) word_bits ∷ []) map_words

  pub told_same : told_of (at_rule g rule) ≡ told_of g
  unfolding told_of count_unprotected lowest at_rule
  told_same =
      λ i.
      record {
        count = sum_to (λ x. only_if (tests_same i x) 1) g.nodes;
        lowest = found_or no_node (first_to (tests_same i) g.nodes);
      }

  -- and so the call
  module _ (one : bad_rule g.search.rule ≡ false) (other : bad_rule rule ≡ false) (row : List ℕ) where
    pub answer-same : map_answer (at_rule g rule) row ≡ map_answer g row
    unfolding map_answer map_verdict
    answer-same = rw (verdict_same g rule one other, told_same)

    pub row_same : map_row (at_rule g rule) row ≡ map_row g row
    unfolding map_row map_verdict
    row_same = rw (verdict_same g rule one other, map_same)
