-- `best_to` finds the number that comes before all others that may stand, the lowest of those that nothing tells apart; there
-- is only one such. `first_to` finds the lowest that passes. Assumes nothing.
use Rattle.std.specs.Prelude.{None, Option, Some}
use mathlib.Core.Path.{◌≡◌, refl, ap}
use mathlib.Core.Bool.{Bool, true, false, cond, not, ◌&&◌, ◌||◌}
use Prim.Native.Nat.{ℕ, zero, suc, ◌<◌}
use native.Mathlib.Nat.{not-suc-le-zero}
use native.Mathlib.Omega.{arith}
use lib.Dec.{ltb}
use borrow.Author.Tests.{ltb-true, ltb-false}
use Rattle.rows.specs.Count.{some_to}
use Rattle.rows.specs.First.{first_to, or_here}
use Rattle.rows.specs.Work.{beats, best_to}
use Rattle.rows.proofs.Tests.{clash, lastly, or_false, and_left}

-- b, below k, may stand; nothing that may stand comes before it, and it comes before each lower one that may stand
pub record IsBest (may : ℕ → Bool) (before : ℕ → ℕ → Bool) (k b : ℕ) : Type 0 where
  pub low : b < k
  pub ok : may b ≡ true
  pub least : (j : ℕ) → j < k → may j ≡ true → before j b ≡ false
  pub first : (j : ℕ) → j < b → may j ≡ true → before b j ≡ true

-- what is found: nothing where nothing may stand, else the best
pub data Best (may : ℕ → Bool) (before : ℕ → ℕ → Bool) (k : ℕ) : Option ℕ → Type 0 where
  none : ((j : ℕ) → j < k → may j ≡ false) → Best may before k None
  some : {b : ℕ} → IsBest may before k b → Best may before k (Some b)

-- a test that orders: of two at most one comes first, and what is not before the second is not before a third that the second is not before
pub record Orders (before : ℕ → ℕ → Bool) : Type 0 where
  pub asym : (a b : ℕ) → before a b ≡ true → before b a ≡ false
  pub through : (a b c : ℕ) → before b a ≡ false → before c b ≡ false → before c a ≡ false

irrefl : {before : ℕ → ℕ → Bool} → Orders before → (a : ℕ) (t : Bool) → before a a ≡ t → before a a ≡ false
irrefl o a true e = o.asym a a e
irrefl o a false e = e

module _ (may : ℕ → Bool) (before : ℕ → ℕ → Bool) where
  -- the best of the numbers below suc k, from the best of those below k
  next : ℕ → Option ℕ → Option ℕ
  next k o = cond (may k && beats before k o) (Some k) o

  module _ (o : Orders before) where
    keep : (k b : ℕ) → IsBest may before k b → (may k ≡ true → before k b ≡ false) → IsBest may before (suc k) b
    keep k b i h =
        record {
          low = omega (arith, i.low);
          ok = i.ok;
          least = lastly (λ j. may j ≡ true → before j b ≡ false) k i.least h;
          first = i.first;
        }

    only : (k : ℕ) → ((j : ℕ) → j < k → may j ≡ false) → may k ≡ true → IsBest may before (suc k) k
    only k h e =
        record {
          low = omega arith;
          ok = e;
          least = lastly (λ j. may j ≡ true → before j k ≡ false) k (λ j l p. clash p (h j l)) (λ p. irrefl o k (before k k) refl);
          first = λ j l p. clash p (h j l);
        }

    over : (k b : ℕ) → IsBest may before k b → before k b ≡ true → (j : ℕ) → j < k → may j ≡ true → (t : Bool) → before k j ≡ t → before k j ≡ true
    over k b i h j l p true e = e
    over k b i h j l p false e = clash h (o.through b j k (i.least j l p) e)

    take : (k b : ℕ) → IsBest may before k b → may k ≡ true → before k b ≡ true → IsBest may before (suc k) k
    take k b i m h =
        record {
          low = omega arith;
          ok = m;
          least =
              lastly (λ j. may j ≡ true → before j k ≡ false) k
              (λ j l p. o.asym k j (over k b i h j l p (before k j) refl))
              (λ p. irrefl o k (before k k) refl);
          first = λ j l p. over k b i h j l p (before k j) refl;
        }

    step-none : (k : ℕ) → ((j : ℕ) → j < k → may j ≡ false) → (m : Bool) → may k ≡ m → Best may before (suc k) (next k None)
    unfolding next beats
    step-none k h true e = rw e (some (only k h e))
    step-none k h false e = rw e (none (lastly (λ j. may j ≡ false) k h e))

    step_some : (k b : ℕ) → IsBest may before k b → (m : Bool) → may k ≡ m → (t : Bool) → before k b ≡ t → Best may before (suc k) (next k (Some b))
    unfolding next beats
    step_some k b i true e true f = rw (e, f) (some (take k b i e f))
    step_some k b i true e false f = rw (e, f) (some (keep k b i (λ p. f)))
    step_some k b i false e t f = rw e (some (keep k b i (λ p. clash p e)))

    step : (k : ℕ) {f : Option ℕ} → Best may before k f → Best may before (suc k) (next k f)
    step k (none h) = step-none k h (may k) refl
    step k (some {b} i) = step_some k b i (may k) refl (before k b) refl

    pub best-is : (k : ℕ) → Best may before k (best_to may before k)
    unfolding best_to next
    best-is zero = none (λ j h. absurd (not-suc-le-zero h))
    best-is (suc k) = step k (best-is k)

  -- there is only one
  pub best_unique : (k b c : ℕ) → IsBest may before k b → IsBest may before k c → b ≡ c
  best_unique k b c i j = go (ltb b c) refl (ltb c b) refl
    where
      go : (s : Bool) → ltb b c ≡ s → (t : Bool) → ltb c b ≡ t → b ≡ c
      go true e t f = clash (j.first b (ltb-true b c e) i.ok) (i.least c j.low j.ok)
      go false e true f = clash (i.first c (ltb-true c b f) j.ok) (j.least b i.low i.ok)
      go false e false f = omega (arith, ltb-false b c e, ltb-false c b f)

  -- what is found is below k and may stand, whatever comes before what
  pub data Stands (k : ℕ) : Option ℕ → Type 0 where
    nobody : Stands k None
    somebody : {b : ℕ} → b < k → may b ≡ true → Stands k (Some b)

  stands_more : (k : ℕ) {f : Option ℕ} → Stands k f → Stands (suc k) f
  stands_more k nobody = nobody
  stands_more k (somebody {b} l m) = somebody {b = b} (omega arith) m

  pub stands : (k : ℕ) → Stands k (best_to may before k)
  unfolding best_to
  stands zero = nobody
  stands (suc k) = go (stands k) (may k && beats before k (best_to may before k)) refl
    where
      go : Stands k (best_to may before k) → (c : Bool) → (may k && beats before k (best_to may before k)) ≡ c → Stands (suc k) (best_to may before (suc k))
      go ih true e = rw e (somebody {b = k} (omega arith) (and_left (may k) (beats before k (best_to may before k)) e))
      go ih false e = rw e (stands_more k ih)

-- the search goes by what may stand below k, and by which of those comes before which
module _ (may may' : ℕ → Bool) (before before' : ℕ → ℕ → Bool) where
  beats_cong :
      (k : ℕ) (m : Bool)
      → may k ≡ m → {f : Option ℕ} → Stands may before k f
      → ((b : ℕ) → b < k → may b ≡ true → may k ≡ true → before k b ≡ before' k b)
      → (may k && beats before k f) ≡ (may k && beats before' k f)
  unfolding beats
  beats_cong k true e nobody h = refl
  beats_cong k true e (somebody {b} l m) h = rw (h b l m e)
  beats_cong k false e s h = rw e

  pub best_cong :
      (k : ℕ)
      → ((j : ℕ) → j < k → may j ≡ may' j)
      → ((i j : ℕ) → i < k → j < i → may i ≡ true → may j ≡ true → before i j ≡ before' i j)
      → best_to may before k ≡ best_to may' before' k
  unfolding best_to
  best_cong zero m o = refl
  best_cong (suc k) m o =
      let ih = best_cong k (λ j l. m j (omega arith)) (λ i j l n. o i j (omega arith) n) in
      rw (← ih, ← m k (omega arith), ← beats_cong k (may k) refl (stands may before k) (λ b l p q. o k b (omega arith) l q p))

-- what `first_to` finds: nothing, or the lowest that passes
pub data Lowest (p : ℕ → Bool) (k : ℕ) : Option ℕ → Type 0 where
  nowhere : ((j : ℕ) → j < k → p j ≡ false) → Lowest p k None
  here : {e : ℕ} → e < k → p e ≡ true → ((j : ℕ) → j < e → p j ≡ false) → Lowest p k (Some e)

pub first-is : (p : ℕ → Bool) (k : ℕ) → Lowest p k (first_to p k)
unfolding first_to or_here
first-is p zero = nowhere (λ j h. absurd (not-suc-le-zero h))
first-is p (suc k) = go (first-is p k) (p k) refl
  where
    go : {f : Option ℕ} → Lowest p k f → (b : Bool) → p k ≡ b → Lowest p (suc k) (or_here f b k)
    go (nowhere h) true e = here {e = k} (omega arith) e h
    go (nowhere h) false e = nowhere (lastly (λ j. p j ≡ false) k h e)
    go (here {e = i} l q h) b e = here {e = i} (omega arith) q h

-- there is only one
pub first_unique : (p : ℕ → Bool) (k : ℕ) {f g : Option ℕ} → Lowest p k f → Lowest p k g → f ≡ g
first_unique p k (nowhere h) (nowhere i) = refl
first_unique p k (nowhere h) (here l e f) = clash e (h _ l)
first_unique p k (here l e f) (nowhere h) = clash e (h _ l)
first_unique p k (here {e = a} l e f) (here {e = b} m g h) = ap Some (go (ltb a b) refl (ltb b a) refl)
  where
    go : (s : Bool) → ltb a b ≡ s → (t : Bool) → ltb b a ≡ t → a ≡ b
    go true i t j = clash e (h a (ltb-true a b i))
    go false i true j = clash g (f b (ltb-true b a j))
    go false i false j = omega (arith, ltb-false a b i, ltb-false b a j)

-- some number passes exactly where the search finds one
pub some_none : (p : ℕ → Bool) (k : ℕ) → some_to p k ≡ false → (j : ℕ) → j < k → p j ≡ false
unfolding some_to
some_none p zero h j l = absurd (not-suc-le-zero l)
some_none p (suc k) h j l =
    let z = or_false (some_to p k) (p k) h in
    lastly (λ j. p j ≡ false) k (some_none p k z.0) z.1 j l

pub none_some : (p : ℕ → Bool) (k : ℕ) → ((j : ℕ) → j < k → p j ≡ false) → some_to p k ≡ false
unfolding some_to
none_some p zero h = refl
none_some p (suc k) h = rw (none_some p k (λ j l. h j (omega arith)), h k (omega arith))

pub some_one : (p : ℕ → Bool) (k : ℕ) → some_to p k ≡ true → (j : ℕ) × (j < k) × (p j ≡ true)
unfolding some_to
some_one p zero h = clash h refl
some_one p (suc k) h = go (some_one p k) (some_to p k) refl
  where
    go : (some_to p k ≡ true → (j : ℕ) × (j < k) × (p j ≡ true)) → (b : Bool) → some_to p k ≡ b → (j : ℕ) × (j < suc k) × (p j ≡ true)
    go ih true e = let z = ih e in (z.0, omega (arith, z.1), z.2)
    go ih false e = (k, omega arith, rw e at h)

pub one_some : (p : ℕ → Bool) (k j : ℕ) → j < k → p j ≡ true → some_to p k ≡ true
one_some p k j l h = go (some_to p k) refl
  where
    go : (b : Bool) → some_to p k ≡ b → some_to p k ≡ true
    go true e = e
    go false e = clash h (some_none p k e j l)

-- tests that agree below k find the same
pub first_cong : (p q : ℕ → Bool) (k : ℕ) → ((j : ℕ) → j < k → p j ≡ q j) → first_to p k ≡ first_to q k
unfolding first_to
first_cong p q zero h = refl
first_cong p q (suc k) h = rw (first_cong p q k (λ j l. h j (omega arith)), h k (omega arith))

-- the best is the first that may stand and that nothing which may stand comes before
module _ (may : ℕ → Bool) (before : ℕ → ℕ → Bool) (k : ℕ) where
  beaten : ℕ → Bool
  beaten e = some_to (λ f. may f && before f e) k

  unbeaten : {b : ℕ} → IsBest may before k b → beaten b ≡ false
  unfolding beaten
  unbeaten {b} i = none_some (λ f. may f && before f b) k (λ f l. go f l (may f) refl)
    where
      go : (f : ℕ) → f < k → (m : Bool) → may f ≡ m → (may f && before f b) ≡ false
      go f l true e = rw e (i.least f l e)
      go f l false e = rw e

  beaten_above : {b : ℕ} → IsBest may before k b → (j : ℕ) → j < b → (m : Bool) → may j ≡ m → (may j && not (beaten j)) ≡ false
  unfolding beaten
  beaten_above {b} i j l true e = rw (e, one_some (λ f. may f && before f j) k b i.low (rw (i.ok, i.first j l e)))
  beaten_above i j l false e = rw e

  pub best-first : Orders before → first_to (λ e. may e && not (some_to (λ f. may f && before f e) k)) k ≡ best_to may before k
  unfolding beaten
  best-first o = first_unique _ k (first-is _ k) (go (best-is may before o k))
    where
      go : {f : Option ℕ} → Best may before k f → Lowest (λ e. may e && not (some_to (λ f. may f && before f e) k)) k f
      go (none h) = nowhere (λ j l. rw (h j l))
      go (some {b} i) = here {e = b} i.low (rw (i.ok, unbeaten i)) (λ j l. beaten_above i j l (may j) refl)

-- something is found exactly where something may stand
abbrev pub is_at : Option ℕ → Bool
is_at None = false
is_at (Some k) = true

found_next : (may : ℕ → Bool) (before : ℕ → ℕ → Bool) (k : ℕ) (m : Bool) (f : Option ℕ) → (is_at f || m) ≡ is_at (cond (m && beats before k f) (Some k) f)
unfolding beats
found_next may before k true None = refl
found_next may before k true (Some b) = go (before k b)
  where
    go : (t : Bool) → true ≡ is_at (cond t (Some k) (Some b))
    go true = refl
    go false = refl
found_next may before k false None = refl
found_next may before k false (Some b) = refl

pub some_found : (may : ℕ → Bool) (before : ℕ → ℕ → Bool) (k : ℕ) → some_to may k ≡ is_at (best_to may before k)
unfolding some_to best_to
some_found may before zero = refl
some_found may before (suc k) = rw (some_found may before k) (found_next may before k (may k) (best_to may before k))
