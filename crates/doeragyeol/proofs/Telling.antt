-- What a verdict is by the answer that was told of it, and by the room of the row that was lent for values. Assumes nothing.
use Rattle.std.specs.Prelude.{Err, Ok, Result}
use mathlib.Core.Path.{◌≡◌, refl, sym, ap, ◌∙◌}
use mathlib.Core.Bool.{Bool, true, false, cond}
use mathlib.Core.List.{List, [], ◌∷◌}
use Prim.Native.Nat.{ℕ, ◌<◌, ◌≤◌}
use native.Mathlib.Omega.{arith}
use lib.ListN.{length}
use borrow.Author.Tests.{lt-ltb, le-ltb}
use Rattle.edition.specs.declared.Refusal.{Refusal}
use Rattle.edition.specs.Refusals.{Verdict, taken, refused}
use Rattle.edition.specs.declared.Why.TheVariants.{NoRoom}
use Rattle.rows.specs.First.{refuse_if, firstly}
use Rattle.network.specs.Network.{Net}
use Rattle.sound.specs.declared.Sizes.{Sizes}
use Rattle.sound.specs.Sound.{net_verdict, answer_of, checked}
use Rattle.map.specs.declared.Unprotected.{Unprotected}
use Rattle.map.specs.Map.{map_if}
use Rattle.archive.specs.declared.Header.{Header}
use Rattle.archive.specs.Writer.{write_if}
use Rattle.archive.specs.Reader.{read_if}
use Rattle.forward.specs.declared.Way.{Way}
use Rattle.forward.specs.declared.Applies.TheVariants.{Ordinary, Detour}
use Rattle.forward.specs.Answers.{applies_if}
use Rattle.tree.specs.Answers.{answer_if}
use Rattle.doeragyeol.specs.Word.{word_of, then_room}

-- a check with nothing behind it
then_none : (v : Verdict) → firstly (v ∷ taken ∷ []) ≡ v
unfolding firstly
then_none (Ok _) = refl
then_none (Err r) = refl

-- the row that was lent for n values
module _ (said : Verdict) (n : ℕ) (row : List ℕ) where
  pub room-there : n ≤ length row → then_room said n row ≡ said
  unfolding then_room refuse_if
  room-there l = ap (λ (b : Bool). firstly (said ∷ refuse_if b NoRoom 0 ∷ [])) (le-ltb (length row) n l) ∙ then_none said

  pub room_lacks : length row < n → then_room said n row ≡ firstly (said ∷ refused NoRoom 0 ∷ [])
  unfolding then_room refuse_if
  room_lacks l = ap (λ (b : Bool). firstly (said ∷ refuse_if b NoRoom 0 ∷ [])) (lt-ltb (length row) n l)

  -- what is refused before is refused by that
  pub room_after : (r : Refusal) → said ≡ Err r → then_room said n row ≡ Err r
  unfolding then_room firstly
  room_after r q = rw q

-- where another room was asked before, 10 is 10
pub rooms_one : (v : Verdict) (b : Bool) → firstly (firstly (v ∷ refuse_if b NoRoom 0 ∷ []) ∷ refused NoRoom 0 ∷ []) ≡ firstly (v ∷ refused NoRoom 0 ∷ [])
unfolding firstly refuse_if
rooms_one (Ok _) true = refl
rooms_one (Ok _) false = refl
rooms_one (Err r) b = refl

-- what ends in 10 is refused
pub ends_refused : (v : Verdict) → (r : Refusal) × (firstly (v ∷ refused NoRoom 0 ∷ []) ≡ Err r)
unfolding firstly
ends_refused (Ok _) = (record { why = NoRoom; place = 0 }, refl)
ends_refused (Err r) = (r, refl)

-- the check
pub sound_is : (v : Verdict) (g : Net) (s : Sizes) → answer_of v g ≡ Ok s → (v ≡ taken) × (s ≡ record { nodes = g.nodes; links = g.links })
sound_is (Ok _) g s e = (refl, cc)
sound_is (Err r) g s e = let z : ◌≡◌ {A = ℕ} 0 1 = cc in absurd (omega arith)

pub sound_not : (v : Verdict) (g : Net) (r : Refusal) → answer_of v g ≡ Err r → v ≡ Err r
sound_not (Ok _) g r e = let z : ◌≡◌ {A = ℕ} 0 1 = cc in absurd (omega arith)
sound_not (Err q) g r e = cc

-- the word where a row for values is too short
module _ (g : Net) (a : Result Sizes Refusal) (q : a ≡ checked g) where
  pub short_sound : (s : Sizes) → a ≡ Ok s → (w : ℕ) → w ≡ word_of (refused NoRoom 0) → w ≡ word_of (firstly (net_verdict g ∷ refused NoRoom 0 ∷ []))
  unfolding checked firstly
  short_sound s t w p = p ∙ sym (ap (λ (v : Verdict). word_of (firstly (v ∷ refused NoRoom 0 ∷ []))) (sound_is (net_verdict g) g s (sym q ∙ t)).0)

  pub short_unsound : (r : Refusal) → a ≡ Err r → (w : ℕ) → w ≡ word_of (Err r) → w ≡ word_of (firstly (net_verdict g ∷ refused NoRoom 0 ∷ []))
  unfolding checked firstly
  short_unsound r t w p = p ∙ sym (ap (λ (v : Verdict). word_of (firstly (v ∷ refused NoRoom 0 ∷ []))) (sound_not (net_verdict g) g r (sym q ∙ t)))

-- the map
pub map_is : (v : Verdict) (t s : Unprotected) → map_if v t ≡ Ok s → (v ≡ taken) × (s ≡ t)
map_is (Ok _) t s e = (refl, cc)
map_is (Err r) t s e = let z : ◌≡◌ {A = ℕ} 0 1 = cc in absurd (omega arith)

pub map-not : (v : Verdict) (t : Unprotected) (r : Refusal) → map_if v t ≡ Err r → v ≡ Err r
map-not (Ok _) t r e = let z : ◌≡◌ {A = ℕ} 0 1 = cc in absurd (omega arith)
map-not (Err q) t r e = cc

-- the writer
pub write_is : (v : Verdict) (t s : ℕ) → write_if v t ≡ Ok s → (v ≡ taken) × (s ≡ t)
write_is (Ok _) t s e = (refl, cc)
write_is (Err r) t s e = let z : ◌≡◌ {A = ℕ} 0 1 = cc in absurd (omega arith)

pub write_not : (v : Verdict) (t : ℕ) (r : Refusal) → write_if v t ≡ Err r → v ≡ Err r
write_not (Ok _) t r e = let z : ◌≡◌ {A = ℕ} 0 1 = cc in absurd (omega arith)
write_not (Err q) t r e = cc

-- the reader
pub read_is : (v : Verdict) (t s : Header) → read_if v t ≡ Ok s → (v ≡ taken) × (s ≡ t)
read_is (Ok _) t s e = (refl, cc)
read_is (Err r) t s e = let z : ◌≡◌ {A = ℕ} 0 1 = cc in absurd (omega arith)

pub read_not : (v : Verdict) (t : Header) (r : Refusal) → read_if v t ≡ Err r → v ≡ Err r
read_not (Ok _) t r e = let z : ◌≡◌ {A = ℕ} 0 1 = cc in absurd (omega arith)
read_not (Err q) t r e = cc

-- the forwarder
pub ordinary_is : (v : Verdict) (b : Bool) (t s : Way) → applies_if v (cond b (Detour t) (Ordinary t)) ≡ Ok (Ordinary s) → v ≡ taken
ordinary_is (Ok _) b t s e = refl
ordinary_is (Err r) b t s e = let z : ◌≡◌ {A = ℕ} 0 1 = cc in absurd (omega arith)

pub detour-is : (v : Verdict) (b : Bool) (t s : Way) → applies_if v (cond b (Detour t) (Ordinary t)) ≡ Ok (Detour s) → v ≡ taken
detour-is (Ok _) b t s e = refl
detour-is (Err r) b t s e = let z : ◌≡◌ {A = ℕ} 0 1 = cc in absurd (omega arith)

pub neither_is : (v : Verdict) (b : Bool) (t : Way) (r : Refusal) → applies_if v (cond b (Detour t) (Ordinary t)) ≡ Err r → v ≡ Err r
neither_is (Ok _) true t r e = let z : ◌≡◌ {A = ℕ} 0 1 = cc in absurd (omega arith)
neither_is (Ok _) false t r e = let z : ◌≡◌ {A = ℕ} 0 1 = cc in absurd (omega arith)
neither_is (Err q) b t r e = cc

-- the tree distance
pub number_is : (v : Verdict) (d e : ℕ) → answer_if v d ≡ Ok e → (v ≡ taken) × (e ≡ d)
number_is (Ok _) d e q = (refl, cc)
number_is (Err r) d e q = let z : ◌≡◌ {A = ℕ} 0 1 = cc in absurd (omega arith)

pub number_not : (v : Verdict) (d : ℕ) (r : Refusal) → answer_if v d ≡ Err r → v ≡ Err r
number_not (Ok _) d r q = let z : ◌≡◌ {A = ℕ} 0 1 = cc in absurd (omega arith)
number_not (Err s) d r q = cc
