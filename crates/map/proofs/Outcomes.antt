-- Two outcomes that a promise allows are equal: one theorem a public function, in the words of its contract. Assumes nothing.
use Prim.Native.Nat.{ℕ}
use mathlib.Core.List.{List}
use Rattle.edition.specs.declared.Search.{Search}
use Rattle.map.specs.Map.{map_answer, map_row}
use Rattle.network.specs.Network.{net_of}
use Rattle.edition.proofs.Only.{One, one}

-- `map::unprotected_map`
pub one_unprotected_map :
    (links parents : List ℕ) (search : Search) (words : List ℕ) →
    let g = net_of links parents search in
    One (map_answer g words)
    × One (map_row g words)
one_unprotected_map links parents search words = (one _, one _)
