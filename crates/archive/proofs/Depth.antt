-- The depth of an accepted file: its two bytes are the depth under which each entry was worked out. Where they are 65,535 the
-- candidates are all links that cross, else they are at most 510 and the candidates are those that cross with their end in T(x) at
-- most so many hops below x; there is no third case. Assumes nothing.
use mathlib.Core.Path.{◌≡◌, refl}
use mathlib.Core.Bool.{Bool, true, false, ◌&&◌}
use mathlib.Core.List.{List}
use Prim.Native.Nat.{ℕ, ◌<◌, ◌≤◌}
use lib.Dec.{eqb, leb, ltb}
use lib.ListN.{get_or, take, drop}
use borrow.Author.Tests.{eqb-true, eqb-false, ltb-false, not-false}
use Rattle.edition.specs.Refusals.{taken}
use Rattle.edition.specs.declared.Why.TheVariants.{BadDepth}
use Rattle.edition.specs.Limits.{whole_search}
use Rattle.edition.specs.Stored.{stored_depth, edition_limits, entry_bytes}
use Rattle.rows.proofs.Refusing.{head_taken, rest-taken, if_taken_lem}
use Rattle.network.specs.Network.{Net, net_of}
use Rattle.network.specs.Records.{bad_depth, size_verdict}
use Rattle.numbers.specs.Bytes.{number_in}
use Rattle.tree.specs.Tree.{tree_of, hops}
use Rattle.swap.specs.Swap.{inner_end, crosses, within, candidate}
use Rattle.swap.specs.Entry.{entry}
use Rattle.record.specs.Record.{entry_record}
use Rattle.archive.specs.Parts.{entry_place}
use Rattle.archive.specs.Reader.{nodes_read, links_read, search_read, net_read, Rows, head_verdict, read_verdict}
use Rattle.archive.proofs.AcceptedWritten.{accepted_fresh}

-- a depth that is not bad is the whole search or at most the limit
depth_cases : (depth : ℕ) → bad_depth edition_limits depth ≡ false → (depth ≡ whole_search → ⊥) → depth ≤ stored_depth
unfolding bad_depth
depth_cases depth h other = go (ltb stored_depth depth) refl
  where
    go : (b : Bool) → ltb stored_depth depth ≡ b → depth ≤ stored_depth
    go true e = absurd (other (eqb-true depth whole_search (not-false _ (rw e at h))))
    go false e = ltb-false stored_depth depth e

-- what a depth says of the candidates: one of two cases
pub data Searched (g : Net) (depth : ℕ) : Type 0 where
  whole : depth ≡ whole_search → ((x e : ℕ) → candidate g x e ≡ crosses (tree_of g) x e (g.link e)) → Searched g depth
  bounded :
      depth ≤ stored_depth
      → ((x e : ℕ)
      → candidate g x e
      ≡ (crosses (tree_of g) x e (g.link e) && leb (hops (tree_of g) x (inner_end (tree_of g) x (g.link e))) depth))
      → Searched g depth

-- whatever crosses is within the whole search
and_all : (a : Bool) → (a && true) ≡ a
and_all true = refl
and_all false = refl

searched : (g : Net) → bad_depth edition_limits g.search.depth ≡ false → Searched g g.search.depth
unfolding candidate within
searched g h = go (eqb g.search.depth whole_search) refl
  where
    go : (b : Bool) → eqb g.search.depth whole_search ≡ b → Searched g g.search.depth
    go true e = whole (eqb-true g.search.depth whole_search e) (λ x k. rw e (and_all (crosses (tree_of g) x k (g.link k))))
    go false e = bounded (depth_cases g.search.depth h (eqb-false g.search.depth whole_search e)) (λ x k. rw e)

-- the two bytes of an accepted file's depth field are the depth of its entries, and say one of two things
pub depth_says :
    (file : List ℕ)
    → ((i : ℕ) → get_or file i 0 < 256) → (rows : Rows) → read_verdict file rows ≡ taken
    → ((net_read file).search.depth ≡ number_in file 14 2)
    × ((x : ℕ)
    → x < nodes_read file
    → take entry_bytes (drop (entry_place (links_read file) x) file) ≡ entry_record ((net_read file).parent x) (entry (net_read file) x))
    × Searched (net_read file) (number_in file 14 2)
unfolding read_verdict head_verdict size_verdict search_read net_read net_of
depth_says file bytes rows h =
    let sizes = head_taken _ _ (rest-taken _ _ (rest-taken _ _ (head_taken _ _ h))) in
    let depth = if_taken_lem _ BadDepth 0 (head_taken _ _ (rest-taken _ _ (rest-taken _ _ (rest-taken _ _ sizes)))) in
    (refl, accepted_fresh file bytes rows h, searched (net_read file) depth)
