-- What was put of a node is read back, and every other record stays; a row is its records and what lies past them. Assumes nothing.
use mathlib.Core.Path.{◌≡◌, refl, sym, ap, ◌∙◌}
use mathlib.Core.List.{List, ◌++◌}
use Prim.Native.Nat.{ℕ, ◌+◌, ◌*◌, ◌<◌, ◌≤◌}
use native.Mathlib.Omega.{arith}
use lib.ListN.{length, get_or, replicate, length-replicate}
use lib.Seq.{sets}
use borrow.Author.Tests.{lt-ltb}
use Rattle.rows.specs.Count.{rows_to}
use Rattle.rows.specs.Records.{record_in, with_record}
use Rattle.rows.proofs.Put as put
use Rattle.survey.specs.declared.Known.{Known}
use Rattle.edition.specs.Limits.{node_limit}
use Rattle.survey.specs.Row.{known_width, known_room, nodes_in, known_row, known_from, known_at, put_known, past_known}

pub known-sized : (k : Known) → length (known_row k) ≡ known_width
unfolding known_row
known-sized k = refl

-- the numbers of a record say what they were made of
pub known_from_lem : (k : Known) → known_from (known_row k) ≡ k
unfolding known_from known_row
known_from_lem k = refl

module _ (row : List ℕ) (x : ℕ) where
  module _ (h : x < nodes_in row) where
    number : (i : ℕ) → i < known_width → get_or row (x * known_width + i) 0 ≡ get_or (record_in known_width row x) i 0
    number i l = sym (put.record_number known_width row x i h l)

    zeroth : get_or row (x * known_width) 0 ≡ get_or (record_in known_width row x) 0 0
    zeroth =
        let none : x * known_width ≡ x * known_width + 0 = omega arith in
        ap (λ (j : ℕ). get_or row j 0) none ∙ number 0 (omega arith)

    pub known-there :
        ◌≡◌ {A = Known}
        (record {
          up = get_or row (x * known_width) 0;
          near = get_or row (x * known_width + 1) 0;
          count = get_or row (x * known_width + 2) 0;
          base = get_or row (x * known_width + 3) 0;
          turn = get_or row (x * known_width + 4) 0;
          deep = get_or row (x * known_width + 5) 0;
          beside = get_or row (x * known_width + 6) 0;
        })
        (known_at row x)
    unfolding known_at known_from
    known-there =
        λ i.
        record {
          up = zeroth i;
          near = number 1 (omega arith) i;
          count = number 2 (omega arith) i;
          base = number 3 (omega arith) i;
          turn = number 4 (omega arith) i;
          deep = number 5 (omega arith) i;
          beside = number 6 (omega arith) i;
        }

    pub put_stored : (k : Known) → sets row (x * known_width) (known_row k) ≡ put_known row x k
    unfolding put_known with_record
    put_stored k = rw (lt-ltb x (nodes_in row) h)

  module _ (k : Known) where
    pub put_length : length (put_known row x k) ≡ length row
    unfolding put_known
    put_length = put.put_length known_width row x (known_row k)

    pub put_count : nodes_in (put_known row x k) ≡ nodes_in row
    unfolding put_known
    put_count = put.put_count known_width row x (known_row k)

    -- what was put is read back
    pub put_back : x < nodes_in row → known_at (put_known row x k) x ≡ k
    unfolding known_at put_known
    put_back h = ap known_from (put.put_same known_width row x (known_row k) (known-sized k) h) ∙ known_from_lem k

    -- every other record stays
    pub put_kept : (y : ℕ) → (y ≡ x → ⊥) → known_at (put_known row x k) y ≡ known_at row y
    unfolding known_at put_known
    put_kept y n = ap known_from (put.put_other known_width row x (known_row k) (known-sized k) y n)

    pub put_past : (n : ℕ) → x < n → past_known n (put_known row x k) ≡ past_known n row
    unfolding past_known put_known
    put_past n h = put.put_past known_width row x (known_row k) (known-sized k) n h

-- a row that says f of each node, and past them what another row holds, is that row
module _ (f : ℕ → Known) (n : ℕ) where
  abbrev pub laid : List ℕ → List ℕ
  laid row = rows_to (λ x. known_row (f x)) n ++ past_known n row

  pub laid_at : (row : List ℕ) (x : ℕ) → x < n → known_at (laid row) x ≡ f x
  unfolding known_at
  laid_at row x l =
      ap known_from (put.rows_record known_width (λ x. known_row (f x)) n (λ x l. known-sized (f x)) (past_known n row) (omega arith) x l)
      ∙ known_from_lem (f x)

  pub laid-count : (row : List ℕ) → n ≤ nodes_in (laid row)
  laid-count row = put.rows_count known_width (λ x. known_row (f x)) n (λ x l. known-sized (f x)) (past_known n row) (omega arith)

-- a row of as many numbers as that has room for all nodes that memory holds
pub full_room : node_limit ≤ nodes_in (replicate known_room 0)
full_room = omega (arith, length-replicate {A = ℕ} known_room 0)
