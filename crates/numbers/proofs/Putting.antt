-- Numbers put one after the other: the loop that puts one from its lowest byte on, and several as one. Assumes nothing.
use mathlib.Core.Path.{◌≡◌, refl, ap, ◌∙◌}
use mathlib.Core.List.{List, [], ◌∷◌, ◌++◌, append_assoc}
use Prim.Native.Nat.{ℕ, zero, suc, ◌+◌, ◌-◌, ◌/◌, ◌%◌, ◌<◌, ◌≤◌}
use native.Mathlib.Omega.{arith}
use lib.ListN.{length, set, length-append}
use lib.Seq.{sets, set_comm}
use Rattle.numbers.specs.Bytes.{bytes_of}

-- k bytes are k bytes
pub bytes_length : (k v : ℕ) → length (bytes_of k v) ≡ k
unfolding bytes_of
bytes_length zero v = refl
bytes_length (suc k) v = omega (arith, length-append (bytes_of k (v / 256)) (v % 256 ∷ []), bytes_length k (v / 256))

-- a number set before a place, and numbers from there on
set_before : (vs l : List ℕ) (i j a : ℕ) → i < j → set (sets l j vs) i a ≡ sets (set l i a) j vs
set_before [] l i j a h = refl
set_before (v ∷ vs) l i j a h =
    set_before vs (set l j v) i (suc j) a (omega arith)
    ∙ ap (λ (r : List ℕ). sets r (suc j) vs) (set_comm l j i v a (λ e. omega (arith, h, e)))

-- numbers put behind numbers
pub sets_behind : (xs ys l : List ℕ) (i j : ℕ) → j ≡ i + length xs → sets (sets l i xs) j ys ≡ sets l i (xs ++ ys)
sets_behind [] ys l i j q = ap (λ k. sets l k ys) (omega (arith, q))
sets_behind (x ∷ xs) ys l i j q = sets_behind xs ys (set l i x) (suc i) j (omega (arith, q))

-- the lowest byte, and none
last_byte : (i rest : ℕ) (tail : List ℕ) → bytes_of (suc i) rest ++ tail ≡ bytes_of i (rest / 256) ++ (rest % 256 ∷ tail)
unfolding bytes_of
last_byte i rest tail = append_assoc (bytes_of i (rest / 256)) (rest % 256 ∷ []) tail

nothing_front : (rest : ℕ) (tail : List ℕ) → bytes_of 0 rest ++ tail ≡ tail
unfolding bytes_of
nothing_front rest tail = refl

-- what the loop keeps: the bytes from place left on are put
pub record Putting (before : List ℕ) (at k v left rest : ℕ) (now : List ℕ) : Type 0 where
  pub tail : List ℕ
  pub whole : bytes_of k v ≡ bytes_of left rest ++ tail
  pub is : now ≡ sets before (at + left) tail

module _ (before : List ℕ) (at k v : ℕ) where
  module _ (left rest : ℕ) (now : List ℕ) (s : Putting before at k v left rest now) where
    pub putting_more : 0 < left → (after : List ℕ) → after ≡ set now (at + (left - 1)) (rest % 256) → Putting before at k v (left - 1) (rest / 256) after
    putting_more l after e =
        let one : left ≡ suc (left - 1) = omega (arith, l) in
        record {
          tail = rest % 256 ∷ s.tail;
          whole = s.whole ∙ (ap (λ i. bytes_of i rest ++ s.tail) one ∙ last_byte (left - 1) rest s.tail);
          is =
              e
              ∙ (ap (λ (r : List ℕ). set r (at + (left - 1)) (rest % 256)) s.is
              ∙ (set_before s.tail before (at + (left - 1)) (at + left) (rest % 256) (omega (arith, l))
              ∙ ap (λ i. sets (set before (at + (left - 1)) (rest % 256)) i s.tail) (omega (arith, l))));
        }

    pub putting_end : left ≤ 0 → now ≡ sets before at (bytes_of k v)
    putting_end l =
        let none : left ≡ 0 = omega arith in
        let here : at + left ≡ at = omega arith in
        let all : bytes_of k v ≡ s.tail = s.whole ∙ (ap (λ i. bytes_of i rest ++ s.tail) none ∙ nothing_front rest s.tail) in
        s.is ∙ rw (here, all)

-- n bytes xs from place i on are put
pub record Put (before : List ℕ) (i n : ℕ) (xs after : List ℕ) : Type 0 where
  pub is : after ≡ sets before i xs
  pub size : length xs ≡ n

pub put_first : (before : List ℕ) (i k v : ℕ) (after : List ℕ) → after ≡ sets before i (bytes_of k v) → Put before i k (bytes_of k v) after
put_first before i k v after q = record { is = q; size = bytes_length k v }

-- and more behind them
pub put_more :
    (before : List ℕ) (i n : ℕ) (xs mid : List ℕ) (j m : ℕ) (ys after : List ℕ)
    → Put before i n xs mid → Put mid j m ys after → j ≡ i + n → Put before i (n + m) (xs ++ ys) after
put_more before i n xs mid j m ys after p q e =
    record {
      is = q.is ∙ (ap (λ (r : List ℕ). sets r j ys) p.is ∙ sets_behind xs ys before i j (omega (arith, e, p.size)));
      size = omega (arith, length-append xs ys, p.size, q.size);
    }

pub put_next :
    (before : List ℕ) (i n : ℕ) (xs mid : List ℕ) (j k v : ℕ) (after : List ℕ)
    → Put before i n xs mid → after ≡ sets mid j (bytes_of k v) → j ≡ i + n
    → Put before i (n + k) (xs ++ bytes_of k v) after
put_next before i n xs mid j k v after p q e = put_more before i n xs mid j k (bytes_of k v) after p (put_first mid j k v after q) e
