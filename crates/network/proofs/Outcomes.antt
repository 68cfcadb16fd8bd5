-- Two outcomes that a promise allows are equal: one theorem a public function, in the words of its contract. Assumes nothing.
use Prim.Native.Nat.{ℕ, ◌*◌, min}
use mathlib.Core.List.{List}
use Rattle.edition.specs.Limits.{no_link, link_limit, link_width}
use Rattle.edition.specs.declared.Limits.{Limits}
use Rattle.edition.specs.declared.Search.{Search}
use Rattle.edition.specs.declared.Why.TheVariants.{NodeCount, LinkCount, BadRoot, BadDepth, BadRule, BadEnds, BadMark, BadParent}
use Rattle.network.specs.Network.{links_in, link_in, put_link, front_links, past_links, net_of, is_parent, in_service, touches, other_end}
use Rattle.network.specs.Records.{bad_nodes, bad_links, bad_root, bad_depth, bad_rule, size_verdict, bad_ends, bad_mark, bad_parent}
use Rattle.network.specs.declared.Link.{Link}
use Rattle.rows.specs.First.{refuse_if, refuse_at}
use lib.ListN.{length, get_or}
use Rattle.edition.proofs.Only.{One, one}

-- `network::links_in`
pub one_links_in : (links : List ℕ) → One (links_in links)
one_links_in links = one _

-- `network::first_links`
pub one_first_links : (links : List ℕ) (m : ℕ) → One (front_links m links)
one_first_links links m = one _

-- `network::past_links`
pub one_past_links : (links : List ℕ) (m : ℕ) → One (past_links m links)
one_past_links links m = one _

-- `network::numbers_of`
pub one_numbers_of : (m : ℕ) → One (min m link_limit * link_width)
one_numbers_of m = one _

-- `network::link_at`
pub one_link_at : (links : List ℕ) (e : ℕ) → One (link_in links e)
one_link_at links e = one _

-- `network::put_link`
pub one_put_link : (links : List ℕ) (e : ℕ) (l : Link) → One (put_link links e l)
one_put_link links e l = one _

-- `network::parent_of`
pub one_parent_of : (parents : List ℕ) (u : ℕ) → One (get_or parents u no_link)
one_parent_of parents u = one _

-- `network::is_parent`
pub one_is_parent :
    (parents : List ℕ) (e : ℕ) →
    let row = parents in
    One (is_parent (λ u. get_or row u no_link) (length row) e)
one_is_parent parents e = one _

-- `network::in_service`
pub one_in_service : (l : Link) → One (in_service l)
one_in_service l = one _

-- `network::touches`
pub one_touches : (l : Link) (u : ℕ) → One (touches l u)
one_touches l u = one _

-- `network::other_end`
pub one_other_end : (l : Link) (u : ℕ) → One (other_end l u)
one_other_end l u = one _

-- `network::check_nodes`
pub one_check_nodes : (most : Limits) (n : ℕ) → One (refuse_if (bad_nodes most n) NodeCount 0)
one_check_nodes most n = one _

-- `network::check_links`
pub one_check_links : (most : Limits) (m : ℕ) → One (refuse_if (bad_links most m) LinkCount 0)
one_check_links most m = one _

-- `network::check_root`
pub one_check_root : (n root : ℕ) → One (refuse_if (bad_root n root) BadRoot 0)
one_check_root n root = one _

-- `network::check_depth`
pub one_check_depth : (most : Limits) (depth : ℕ) → One (refuse_if (bad_depth most depth) BadDepth 0)
one_check_depth most depth = one _

-- `network::check_rule`
pub one_check_rule : (rule : ℕ) → One (refuse_if (bad_rule rule) BadRule 0)
one_check_rule rule = one _

-- `network::check_sizes`
pub one_check_sizes : (most : Limits) (n m : ℕ) (search : Search) → One (size_verdict most n m search)
one_check_sizes most n m search = one _

-- `network::bad_mark`
pub one_bad_mark : (mark : ℕ) → One (bad_mark mark)
one_bad_mark mark = one _

-- `network::check_ends`
pub one_check_ends :
    (links : List ℕ) (n : ℕ) →
    let row = links in
    One (refuse_at (λ e. bad_ends n (link_in row e)) (links_in row) BadEnds)
one_check_ends links n = one _

-- `network::check_marks`
pub one_check_marks :
    (links : List ℕ) →
    let row = links in
    One (refuse_at (λ e. bad_mark (link_in row e).mark) (links_in row) BadMark)
one_check_marks links = one _

-- `network::check_parents`
pub one_check_parents :
    (links parents : List ℕ) (search : Search) →
    let g = net_of links parents search in
    One (refuse_at (bad_parent g) g.nodes BadParent)
one_check_parents links parents search = one _
