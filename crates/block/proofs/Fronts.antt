-- The front of a block is the one asked exactly where kind, edition, number and used count are. Assumes nothing.
use mathlib.Core.Path.{◌≡◌, refl, sym, ap, ap₂, ◌∙◌}
use mathlib.Core.Bool.{Bool, true, false, not, ◌&&◌, ◌||◌}
use mathlib.Core.List.{List}
use Prim.Native.Nat.{ℕ, ◌+◌, ◌*◌, ◌/◌, ◌%◌, ◌<◌}
use native.Mathlib.Omega.{arith}
use lib.Dec.{eqb}
use lib.ListN.{length, get_or, take}
use borrow.Author.Tests.{eq-eqb, eqb-true, eqb-false}
use Rattle.edition.specs.Stored.{edition_one, block_bytes}
use Rattle.rows.specs.Lists.{same}
use Rattle.numbers.specs.Bytes.{bytes_of, number_in}
use Rattle.numbers.proofs.Getting.{number_two}
use Rattle.block.specs.Block.{front}
use Rattle.block.specs.Work.{bad_front}
use Rattle.block.proofs.Summing.{first_six}

-- two bytes are those of a number exactly where they stand for it
two_bytes : (x y v : ℕ) → x < 256 → y < 256 → v < 65536 → (eqb x (v / 256 % 256) && eqb y (v % 256)) ≡ eqb (x * 256 + y) v
two_bytes x y v l m n = go (eqb (x * 256 + y) v) refl
  where
    go : (t : Bool) → eqb (x * 256 + y) v ≡ t → (eqb x (v / 256 % 256) && eqb y (v % 256)) ≡ t
    go true e =
        let q = eqb-true (x * 256 + y) v e in
        rw (eq-eqb x (v / 256 % 256) (omega arith), eq-eqb y (v % 256) (omega arith))
    go false e = high (eqb x (v / 256 % 256)) refl (eqb y (v % 256)) refl
      where
        high : (s : Bool) → eqb x (v / 256 % 256) ≡ s → (t : Bool) → eqb y (v % 256) ≡ t → (eqb x (v / 256 % 256) && eqb y (v % 256)) ≡ false
        high true p true q =
            absurd (eqb-false (x * 256 + y) v e (omega (arith, eqb-true x (v / 256 % 256) p, eqb-true y (v % 256) q)))
        high true p false q = rw (p, q)
        high false p t q = rw p

six : (a b p q r s : Bool) → (a && (b && (p && (q && (r && (s && true)))))) ≡ (a && (b && ((p && q) && (r && s))))
six false b p q r s = refl
six true false p q r s = refl
six true true false q r s = refl
six true true true false r s = refl
six true true true true false s = refl
six true true true true true false = refl
six true true true true true true = refl

not_all : (p q r s : Bool) → not (p && (q && (r && s))) ≡ (not p || not q || not r || not s)
not_all false q r s = refl
not_all true false r s = refl
not_all true true false s = refl
not_all true true true s = refl

module _ (kind number used : ℕ) (b : List ℕ) (l : length b ≡ block_bytes) (bytes : (i : ℕ) → get_or b i 0 < 256) (n : number < 65536) (u : used < 65536) where
  -- front by front
  front_same :
      same (take 6 b) (front kind number used)
      ≡ (eqb (get_or b 0 0) kind &&
      (eqb (get_or b 1 0) edition_one && (eqb (number_in b 2 2) number && eqb (number_in b 4 2) used)))
  unfolding same front bytes_of
  front_same =
      ap (λ (t : List ℕ). same t (front kind number used)) (first_six b l)
      ∙ (six (eqb (get_or b 0 0) kind) (eqb (get_or b 1 0) edition_one) (eqb (get_or b 2 0) (number / 256 % 256))
      (eqb (get_or b 3 0) (number % 256)) (eqb (get_or b 4 0) (used / 256 % 256)) (eqb (get_or b 5 0) (used % 256))
      ∙ ap₂ (λ (p q : Bool). eqb (get_or b 0 0) kind && (eqb (get_or b 1 0) edition_one && (p && q)))
      (two_bytes (get_or b 2 0) (get_or b 3 0) number (bytes 2) (bytes 3) n ∙ ap (λ (v : ℕ). eqb v number) (sym (number_two b 2)))
      (two_bytes (get_or b 4 0) (get_or b 5 0) used (bytes 4) (bytes 5) u ∙ ap (λ (v : ℕ). eqb v used) (sym (number_two b 4))))

  pub front_other :
      bad_front kind number used b
      ≡ (not (eqb (get_or b 0 0) kind) || not (eqb (get_or b 1 0) edition_one) || not (eqb (number_in b 2 2) number) || not (eqb (number_in b 4 2) used))
  unfolding bad_front
  front_other = rw front_same (not_all (eqb (get_or b 0 0) kind) (eqb (get_or b 1 0) edition_one) (eqb (number_in b 2 2) number) (eqb (number_in b 4 2) used))
