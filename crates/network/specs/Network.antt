-- A network: what the lent rows of links and parents say, with the numbers that the caller names. Only whole records count;
-- everything below this page speaks of a network and never of its rows. Assumes nothing.
use Rattle.std.specs.Prelude.{Bool, cond, ◌||◌, List, [], ◌∷◌, ℕ, eqb, length, get_or}
use Rattle.edition.specs.declared.Search.{Search}
use Rattle.edition.specs.Limits.{no_link, link_width, served}
use Rattle.rows.specs.Count.{some_to}
use Rattle.rows.specs.Records.{records_in, record_in, with_record, first_records, past_records}
use Rattle.network.specs.declared.Link.{Link}
use Rattle.network.specs.declared.lent.Network.{Network}

-- n nodes and m links; the record of each link, the parent link of each node; root, depth and tie rule.
pub record Net : Type 0 where
  pub nodes : ℕ
  pub links : ℕ
  pub link : ℕ → Link
  pub parent : ℕ → ℕ
  pub search : Search

-- How many whole records a row of links holds.
abbrev pub links_in : List ℕ → ℕ
links_in row = records_in link_width row

-- The numbers of a link's record: two ends, length, service mark.
unfoldable pub link_row : Link → List ℕ
link_row l = l.first ∷ l.second ∷ l.length ∷ l.mark ∷ []

-- The link that the numbers of a record are.
unfoldable pub link_from : List ℕ → Link
link_from r = record { first = get_or r 0 0; second = get_or r 1 0; length = get_or r 2 0; mark = get_or r 3 0 }

-- The record of link e in a row; all 0 where there is no such link.
unfoldable pub link_in : List ℕ → ℕ → Link
link_in row e = link_from (record_in link_width row e)

-- The row with this link in the record of link e; as it was where there is no such link.
unfoldable pub put_link : List ℕ → ℕ → Link → List ℕ
put_link row e l = with_record link_width row e (link_row l)

-- The records of the first m links; all of the row where it holds fewer.
unfoldable pub front_links : ℕ → List ℕ → List ℕ
front_links m row = first_records link_width m row

-- What lies past the records of the first m links.
unfoldable pub past_links : ℕ → List ℕ → List ℕ
past_links m row = past_records link_width m row

-- Is link e the parent link of one of n nodes? The root names 65,535.
unfoldable pub is_parent : (ℕ → ℕ) → ℕ → ℕ → Bool
is_parent parent n e = some_to (λ u. eqb (parent u) e) n

-- The network of lent rows: n is the length of the row of parents, m that of the row of links.
unfoldable pub net_of : List ℕ → List ℕ → Search → Net
net_of links parents search =
    record {
      nodes = length parents;
      links = links_in links;
      link = link_in links;
      parent = λ u. get_or parents u no_link;
      search = search;
    }

-- The network that is lent.
abbrev pub lent : Network → Net
lent n = net_of n.links.now n.parents.now n.search

-- Is the link in service?
unfoldable pub in_service : Link → Bool
in_service l = eqb l.mark served

-- Is u an end of the link?
unfoldable pub touches : Link → ℕ → Bool
touches l u = eqb l.first u || eqb l.second u

-- The end of a link that is not u.
unfoldable pub other_end : Link → ℕ → ℕ
other_end l u = cond (eqb l.first u) l.second l.first
