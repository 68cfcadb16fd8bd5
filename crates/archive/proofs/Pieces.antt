-- A row as its pieces. Assumes nothing.
use mathlib.Core.Path.{◌≡◌, refl, sym, ap, ◌∙◌}
use mathlib.Core.List.{List, [], ◌∷◌, ◌++◌, append-nil}
use Prim.Native.Nat.{ℕ, zero, suc, ◌+◌, ◌*◌, ◌<◌, ◌≤◌}
use native.Mathlib.Nat.{suc-mul, zero-mul}
use native.Mathlib.Omega.{arith}
use lib.ListN.{length, get_or, take, drop}
use lib.Seq.{take-add, drop-drop, take-take, get_or-take, get_or-drop}
use Rattle.rows.specs.Count.{rows_to}
use Rattle.rows.proofs.Records.{rows_at}
use Rattle.edition.specs.Stored.{block_bytes, front_bytes}
use Rattle.archive.specs.Reader.{block_at}

-- c pieces of n each are the front of the row
pub pieces : (n : ℕ) (s : List ℕ) (c : ℕ) → rows_to (λ i. take n (drop (i * n) s)) c ≡ take (c * n) s
unfolding rows_to
pieces n s zero = rw (zero-mul n)
pieces n s (suc c) = rw (pieces n s c, suc-mul c n) (sym (take-add (c * n) n s))

-- a piece of a front is that piece of the row
piece_of : (a b c : ℕ) (l : List ℕ) → a + b ≤ c → take a (drop b (take c l)) ≡ take a (drop b l)
piece_of a zero c l h = take-take a c l (omega arith)
piece_of a (suc b) zero l h = absurd (omega arith)
piece_of a (suc b) (suc c) [] h = refl
piece_of a (suc b) (suc c) (x ∷ l) h = piece_of a b c l (omega arith)

-- two pieces that touch
pub join : (a b i : ℕ) (s : List ℕ) → take a (drop i s) ++ take b (drop (i + a) s) ≡ take (a + b) (drop i s)
join a b i s =
    ap (λ (l : List ℕ). take a (drop i s) ++ take b l) (sym (drop-drop a i s)) ∙ sym (take-add a b (drop i s))

-- a number of a record in a row of records
pub row_get :
    (f : ℕ → List ℕ) (size : ℕ)
    → ((x : ℕ) → length (f x) ≡ size) → (k x i d : ℕ) → x < k → i < size
    → get_or (rows_to f k) (x * size + i) d ≡ get_or (f x) i d
row_get f size h k x i d l m =
    sym (get_or-drop (x * size) (rows_to f k) i d)
    ∙ (sym (get_or-take size (drop (x * size) (rows_to f k)) i d m)
    ∙ ap (λ (r : List ℕ). get_or r i d)
    (ap (λ (r : List ℕ). take size (drop (x * size) r)) (sym (append-nil (rows_to f k))) ∙ rows_at f size h k [] x l))

-- a record of a block is a part of the file
pub record_part :
    (file : List ℕ) (i at size : ℕ)
    → front_bytes + at + size ≤ block_bytes
    → take size (drop at (drop front_bytes (block_at file i))) ≡ take size (drop (i * block_bytes + front_bytes + at) file)
unfolding block_at
record_part file i at size h =
    let sum : i * block_bytes + (front_bytes + at) ≡ i * block_bytes + front_bytes + at = omega arith in
    ap (take size) (drop-drop at front_bytes (take block_bytes (drop (i * block_bytes) file)))
    ∙ (piece_of size (front_bytes + at) block_bytes (drop (i * block_bytes) file) (omega arith)
    ∙ ap (take size) (drop-drop (front_bytes + at) (i * block_bytes) file ∙ ap (λ (k : ℕ). drop k file) sum))
