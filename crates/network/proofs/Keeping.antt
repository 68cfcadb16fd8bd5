-- A link that is put is read back, and every other stays; the numbers of a link, where they stand in a row. Assumes nothing.
use mathlib.Core.Path.{◌≡◌, refl, sym, ap, ◌∙◌}
use mathlib.Core.List.{List, [], ◌++◌, append-nil}
use Prim.Native.Nat.{ℕ, ◌+◌, ◌*◌, ◌<◌, ◌≤◌}
use native.Mathlib.Omega.{arith}
use lib.ListN.{length, get_or, drop, drop_of_length-le}
use lib.Seq.{sets}
use borrow.Author.Tests.{lt-ltb, le-ltb}
use Rattle.edition.specs.Limits.{link_width}
use Rattle.rows.specs.Count.{rows_to}
use Rattle.rows.specs.Records.{with_record, past_records, record_in}
use Rattle.rows.proofs.Put as put
use Rattle.network.specs.declared.Link.{Link}
use Rattle.network.specs.Network.{links_in, link_row, link_from, link_in, put_link, front_links, past_links}

pub link-sized : (l : Link) → length (link_row l) ≡ link_width
unfolding link_row
link-sized l = refl

-- the numbers of a link are that link
pub link_from_lem : (l : Link) → link_from (link_row l) ≡ l
unfolding link_from link_row
link_from_lem l = refl

module _ (row : List ℕ) (e : ℕ) where
  pub link-none : links_in row ≤ e → link_from [] ≡ link_in row e
  unfolding link_in
  link-none h = ap link_from (sym (put.record-none link_width row e h))

  module _ (h : e < links_in row) where
    number : (i : ℕ) → i < link_width → get_or row (e * link_width + i) 0 ≡ get_or (record_in link_width row e) i 0
    number i l = sym (put.record_number link_width row e i h l)

    zeroth : get_or row (e * link_width) 0 ≡ get_or (record_in link_width row e) 0 0
    zeroth =
        let none : e * link_width ≡ e * link_width + 0 = omega arith in
        ap (λ (j : ℕ). get_or row j 0) none ∙ number 0 (omega arith)

    pub link-there :
        ◌≡◌ {A = Link}
        (record {
          first =
              get_or row (e * link_width) 0;
          second =
              get_or row (e * link_width + 1) 0;
          length =
              get_or row (e * link_width + 2) 0;
          mark = get_or row (e * link_width + 3) 0;
        })
        (link_in row e)
    unfolding link_in link_from
    link-there =
        λ i.
        record {
          first = zeroth i;
          second = number 1 (omega arith) i;
          length = number 2 (omega arith) i;
          mark = number 3 (omega arith) i;
        }

    pub put_stored : (l : Link) → sets row (e * link_width) (link_row l) ≡ put_link row e l
    unfolding put_link with_record
    put_stored l = rw (lt-ltb e (links_in row) h)

  pub put_nothing : (l : Link) → links_in row ≤ e → row ≡ put_link row e l
  unfolding put_link with_record
  put_nothing l h = rw (le-ltb e (links_in row) h)

  module _ (l : Link) where
    pub put_count : links_in (put_link row e l) ≡ links_in row
    unfolding put_link
    put_count = put.put_count link_width row e (link_row l)

    -- what was put is read back
    pub put_back : e < links_in row → link_in (put_link row e l) e ≡ l
    unfolding link_in put_link
    put_back h = ap link_from (put.put_same link_width row e (link_row l) (link-sized l) h) ∙ link_from_lem l

    -- every other record stays
    pub put_kept : (k : ℕ) → (k ≡ e → ⊥) → link_in (put_link row e l) k ≡ link_in row k
    unfolding link_in put_link
    put_kept k n = ap link_from (put.put_other link_width row e (link_row l) (link-sized l) k n)

-- what lies past the first m records, that one among them, stays
pub put_past : (row : List ℕ) (e : ℕ) (l : Link) (m : ℕ) → e < m → past_links m (put_link row e l) ≡ past_links m row
unfolding past_links put_link
put_past row e l m h = put.put_past link_width row e (link_row l) (link-sized l) m h

-- a link among the first m is the same in a row that is cut behind them
pub link-front : (row : List ℕ) (m e : ℕ) → e < m → m ≤ links_in row → link_in (front_links m row) e ≡ link_in row e
unfolding link_in front_links
link-front row m e l h = ap link_from (put.record-front link_width row m e (omega arith) l h)

-- two records may be put in either order
pub put_swap : (row : List ℕ) (d e : ℕ) (k l : Link) → (d ≡ e → ⊥) → put_link (put_link row d k) e l ≡ put_link (put_link row e l) d k
unfolding put_link
put_swap row d e k l n = put.put_swap link_width row d e (link_row k) (link_row l) n (link-sized k) (link-sized l)

pub past_end : (row : List ℕ) (m : ℕ) → links_in row < m → drop (length row) row ≡ past_links m row
unfolding past_links past_records
past_end row m h =
    drop_of_length-le row {i = length row} (omega arith)
    ∙ sym (drop_of_length-le row {i = m * link_width} (omega arith))

-- the records of links one after the other
module _ (f : ℕ → Link) where
  sized : (e : ℕ) → length (link_row (f e)) ≡ link_width
  sized e = link-sized (f e)

  pub rows_count : (m : ℕ) → links_in (rows_to (λ e. link_row (f e)) m) ≡ m
  rows_count m = put.rows_exact link_width (λ e. link_row (f e)) m (λ e l. sized e) (omega arith)

  pub rows_link : (m e : ℕ) → e < m → link_in (rows_to (λ e. link_row (f e)) m) e ≡ f e
  unfolding link_in
  rows_link m e l =
      ap (λ (r : List ℕ). link_from (record_in link_width r e)) (sym (append-nil (rows_to (λ e. link_row (f e)) m)))
      ∙ (ap link_from (put.rows_record link_width (λ e. link_row (f e)) m (λ e l. sized e) [] (omega arith) e l) ∙ link_from_lem (f e))

  pub rows_first : (m : ℕ) (more : List ℕ) → front_links m (rows_to (λ e. link_row (f e)) m ++ more) ≡ rows_to (λ e. link_row (f e)) m
  unfolding front_links
  rows_first m more = put.rows_first link_width (λ e. link_row (f e)) m (λ e l. sized e) more

  -- the next record, behind those that are put already
  pub put_next :
      (k : ℕ) (before : List ℕ)
      → k < links_in before → (l : Link) → l ≡ f k
      → put_link (rows_to (λ e. link_row (f e)) k ++ past_links k before) k l
      ≡ rows_to (λ e. link_row (f e)) (k + 1) ++ past_links (k + 1) before
  unfolding put_link past_links
  put_next k before h l q =
      ap (λ (l : Link). with_record link_width (rows_to (λ e. link_row (f e)) k ++ past_records link_width k before) k (link_row l)) q
      ∙ put.put_next link_width (λ e. link_row (f e)) k sized before h
