-- A row of what is known of nodes, a record each. How it lies there is known here and nowhere else. Assumes nothing.
use Rattle.std.specs.Prelude.{List, [], ◌∷◌, ℕ, ◌*◌, get_or}
use Rattle.edition.specs.Limits.{node_limit}
use Rattle.rows.specs.Records.{records_in, record_in, with_record, past_records}
use Rattle.survey.specs.declared.Known.{Known}

-- Numbers in a node's record.
abbrev pub known_width : ℕ
known_width = 7

-- Numbers in a row of as many nodes as memory holds.
abbrev pub known_room : ℕ
known_room = node_limit * known_width

-- How many whole records a row holds.
abbrev pub nodes_in : List ℕ → ℕ
nodes_in row = records_in known_width row

-- The numbers of a record.
unfoldable pub known_row : Known → List ℕ
known_row k = k.up ∷ k.near ∷ k.count ∷ k.base ∷ k.turn ∷ k.deep ∷ k.beside ∷ []

-- What the numbers of a record say.
unfoldable pub known_from : List ℕ → Known
known_from r =
    record {
      up = get_or r 0 0;
      near = get_or r 1 0;
      count = get_or r 2 0;
      base = get_or r 3 0;
      turn = get_or r 4 0;
      deep = get_or r 5 0;
      beside = get_or r 6 0;
    }

-- What a row says of node x; every number is 0 where the row holds no such record.
unfoldable pub known_at : List ℕ → ℕ → Known
known_at row x = known_from (record_in known_width row x)

-- The row with this in the record of x; as it was where there is no such record.
unfoldable pub put_known : List ℕ → ℕ → Known → List ℕ
put_known row x k = with_record known_width row x (known_row k)

-- What lies past the first n records.
unfoldable pub past_known : ℕ → List ℕ → List ℕ
past_known n row = past_records known_width n row
