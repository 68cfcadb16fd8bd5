-- The check of a network and its tree: refusals 8 and 9, and 1 to 9 with 14 in their order. Assumes nothing.
use Rattle.std.specs.Prelude.{Err, Ok, Result, Bool, not, ◌&&◌, [], ◌∷◌, ℕ, ◌+◌, leb}
use Rattle.edition.specs.Refusals.{Verdict, taken}
use Rattle.edition.specs.declared.Why.TheVariants.{BadEnds, BadMark, BadParent, NoRoute, NotShort}
use Rattle.edition.specs.Limits.{memory_limits}
use Rattle.rows.specs.First.{refuse_at, firstly}
use Rattle.network.specs.Network.{Net, in_service}
use Rattle.network.specs.Records.{size_verdict, bad_ends, bad_mark, bad_parent}
use Rattle.edition.specs.declared.Refusal.{Refusal}
use Rattle.sound.specs.declared.Sizes.{Sizes}
use Rattle.tree.specs.Tree.{Tree, tree_of, has_route, dist}

-- 8: the node has no route to the root.
unfoldable pub no_route : Net → ℕ → Bool
no_route g u = not (has_route (tree_of g) u)

-- The two inequalities, of two distances and a length.
unfoldable pub keeps_short : ℕ → ℕ → ℕ → Bool
keeps_short p q w = leb p (q + w) && leb q (p + w)

-- d(a) <= d(b) + w and d(b) <= d(a) + w.
unfoldable pub short : Tree → ℕ → ℕ → ℕ → Bool
short t a b w = keeps_short (dist t a) (dist t b) w

-- 9: the link is in service and breaks shortness.
unfoldable pub not_short : Net → ℕ → Bool
not_short g e =
    let l = g.link e in
    in_service l && not (short (tree_of g) l.first l.second l.length)

-- 5 to 9, of the records.
unfoldable pub record_verdict : Net → Verdict
record_verdict g =
    firstly
    (refuse_at (λ e. bad_ends g.nodes (g.link e)) g.links BadEnds ∷
    refuse_at (λ e. bad_mark (g.link e).mark) g.links BadMark ∷
    refuse_at (bad_parent g) g.nodes BadParent ∷
    refuse_at (no_route g) g.nodes NoRoute ∷
    refuse_at (not_short g) g.links NotShort ∷ [])

-- The order for a network: 1 to 4, 14, 5 to 9.
unfoldable pub net_verdict : Net → Verdict
net_verdict g = firstly (size_verdict memory_limits g.nodes g.links g.search ∷ record_verdict g ∷ [])

-- What the check answers: how large a sound network is, or the refusal.
abbrev pub answer_of : Verdict → Net → Result Sizes Refusal
answer_of (Ok _) g = Ok (record { nodes = g.nodes; links = g.links })
answer_of (Err r) g = Err r

-- The check of a network.
unfoldable pub checked : Net → Result Sizes Refusal
checked g = answer_of (net_verdict g) g

-- What is handed up of a check: its refusal unchanged, or that nothing is refused.
abbrev pub handed_up : Result Sizes Refusal → Verdict
handed_up (Ok sizes) = taken
handed_up (Err r) = Err r
