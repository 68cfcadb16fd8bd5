-- The unprotected map on its definitions: bit x mod 64 of word x div 64 is 1 exactly where x is a node in state 2 or 3, the count is
-- the number of ones, and the lowest is the lowest, 65,535 exactly where there is none. Assumes nothing.
use Rattle.std.specs.Prelude.{Option}
use mathlib.Core.Path.{◌≡◌, refl, sym, ap, ◌∙◌}
use mathlib.Core.Bool.{Bool, true, false}
use mathlib.Core.List.{[], ◌∷◌}
use Prim.Native.Nat.{ℕ, zero, suc, ◌+◌, ◌*◌, ◌/◌, ◌%◌, ◌^◌, ◌<◌, ◌≤◌}
use native.Mathlib.Nat.{pow-succ', div-one, div-div-eq-div-mul, not-suc-le-zero}
use native.Mathlib.Omega.{arith}
use lib.Dec.{ltb}
use lib.ListN.{length, get_or}
use borrow.Author.Tests.{ltb-true, ltb-false}
use Rattle.edition.specs.Limits.{no_node, node_limit, map_words, word_bits}
use Rattle.rows.specs.Count.{sum_to, rows_to, row_with, only_if}
use Rattle.rows.specs.First.{found_or}
use Rattle.rows.proofs.Best.{Lowest, nowhere, here, first-is}
use Rattle.rows.proofs.Counting.{sum_cong}
use Rattle.rows.proofs.Filling.{filled_at}
use Rattle.rows.proofs.Records.{rows_length}
use Rattle.rows.proofs.Tests.{clash}
use Rattle.network.specs.Network.{Net}
use Rattle.map.specs.Map.{unprotected, word, map_of, count_unprotected, lowest}
use Rattle.map.specs.Work.{packed}
use Rattle.map.proofs.Packing.{shift, only_odd}
use Rattle.map.proofs.Wording.{sum_tests}

-- a bit of a number that is made of tests is its test
bit_packed : (j : ℕ) (p : ℕ → Bool) (k : ℕ) → j < k → packed p k / 2 ^ j % 2 ≡ only_if (p j) 1
bit_packed j p zero l = absurd (not-suc-le-zero l)
bit_packed zero p (suc k) l = ap (λ (n : ℕ). n % 2) (div-one (packed p (suc k))) ∙ omega (arith, shift p k, only_odd (p 0))
bit_packed (suc j) p (suc k) l =
    let half : packed p (suc k) / 2 ≡ packed (λ i. p (suc i)) k = omega (arith, shift p k, only_odd (p 0)) in
    ap (λ (d : ℕ). packed p (suc k) / d % 2) (pow-succ' 2 j)
    ∙ (ap (λ (n : ℕ). n % 2) (sym (div-div-eq-div-mul (packed p (suc k)) 2 (2 ^ j)))
    ∙ (ap (λ (n : ℕ). n / 2 ^ j % 2) half ∙ bit_packed j (λ i. p (suc i)) k (omega arith)))

module _ (g : Net) where
  word-there : (i : ℕ) → i < map_words → get_or (map_of g) i 0 ≡ word g i
  unfolding map_of row_with rows_to
  word-there i l = filled_at (word g) map_words [] i l

  -- there are eight words
  pub map-size : length (map_of g) ≡ map_words
  unfolding map_of
  map-size = rows_length (λ i. word g i ∷ []) 1 (λ i. refl) map_words

  -- bit x mod 64 of word x div 64 is 1 where x is a node in state 2 or 3, and 0 elsewhere
  pub map_bit : (x : ℕ) → x < map_words * word_bits → get_or (map_of g) (x / word_bits) 0 / 2 ^ (x % word_bits) % 2 ≡ only_if (unprotected g x) 1
  unfolding word packed
  map_bit x l =
      let parts : x / word_bits * word_bits + x % word_bits ≡ x = omega arith in
      ap (λ (w : ℕ). w / 2 ^ (x % word_bits) % 2) (word-there (x / word_bits) (omega arith))
      ∙ (bit_packed (x % word_bits) (λ j. unprotected g (x / word_bits * word_bits + j)) word_bits (omega arith)
      ∙ ap (λ (y : ℕ). only_if (unprotected g y) 1) parts)

  -- what is unprotected is a node
  unprotected-node : (x : ℕ) → g.nodes ≤ x → unprotected g x ≡ false
  unfolding unprotected
  unprotected-node x l = go (ltb x g.nodes) refl
    where
      go : (b : Bool) → ltb x g.nodes ≡ b → unprotected g x ≡ false
      go true e = absurd (omega (arith, ltb-true x g.nodes e))
      go false e = rw e

  -- the count is the number of ones
  pub map-count :
      g.nodes ≤ node_limit
      → count_unprotected g ≡ sum_to (λ x. get_or (map_of g) (x / word_bits) 0 / 2 ^ (x % word_bits) % 2) (map_words * word_bits)
  unfolding count_unprotected
  map-count few =
      sym
      (sum_cong _ _ (map_words * word_bits) (λ x l. map_bit x l)
      ∙ sum_tests (unprotected g) g.nodes (omega (arith, few)) unprotected-node)

  -- the lowest is unprotected, and no unprotected node is lower
  pub map-lowest : (x : ℕ) → unprotected g x ≡ true → (unprotected g (lowest g) ≡ true) × (lowest g ≤ x)
  unfolding lowest found_or
  map-lowest x h = go (first-is (unprotected g) g.nodes)
    where
      low : x < g.nodes
      low = go (ltb x g.nodes) refl
        where
          go : (b : Bool) → ltb x g.nodes ≡ b → x < g.nodes
          go true e = ltb-true x g.nodes e
          go false e = clash h (unprotected-node x (ltb-false x g.nodes e))

      go : {f : Option ℕ} → Lowest (unprotected g) g.nodes f → (unprotected g (found_or no_node f) ≡ true) × (found_or no_node f ≤ x)
      go (nowhere n) = clash h (n x low)
      go (here {e = y} l e n) = (e, under (ltb x y) refl)
        where
          under : (b : Bool) → ltb x y ≡ b → y ≤ x
          under true q = clash h (n x (ltb-true x y q))
          under false q = ltb-false x y q

  -- it is 65,535 exactly where no node is unprotected
  pub lowest-none : g.nodes ≤ node_limit → lowest g ≡ no_node → (x : ℕ) → unprotected g x ≡ false
  lowest-none few q x = go (unprotected g x) refl
    where
      go : (b : Bool) → unprotected g x ≡ b → unprotected g x ≡ false
      go false e = e
      go true e = let z = map-lowest x e in clash z.0 (unprotected-node (lowest g) (omega (arith, few, q)))

  pub none-lowest : ((x : ℕ) → unprotected g x ≡ false) → lowest g ≡ no_node
  unfolding lowest found_or
  none-lowest n = go (first-is (unprotected g) g.nodes)
    where
      go : {f : Option ℕ} → Lowest (unprotected g) g.nodes f → found_or no_node f ≡ no_node
      go (nowhere h) = refl
      go (here {e = y} l e h) = clash e (n y)
