-- What the forwarder answers and refuses, and what the two lent rows then hold. Assumes nothing.
use Rattle.std.specs.Prelude.{Result, Ok, Err, Bool, cond, not, ◌&&◌, ◌||◌, List, [], ◌∷◌, ◌++◌, ℕ, eqb, leb, ltb, length, take, drop}
use Rattle.edition.specs.declared.Refusal.{Refusal}
use Rattle.edition.specs.declared.Why.TheVariants.{NoRoom, BadStart, BadFailed, NoSwap}
use Rattle.edition.specs.Entries.{swap_state}
use Rattle.edition.specs.Limits.{route_room}
use Rattle.edition.specs.Refusals.{Verdict, number_of, if_taken}
use Rattle.rows.specs.First.{refuse_if, firstly}
use Rattle.network.specs.Network.{Net}
use Rattle.sound.specs.Sound.{net_verdict}
use Rattle.swap.specs.Entry.{entry}
use Rattle.forward.specs.declared.Ask.{Ask}
use Rattle.forward.specs.declared.Way.{Way}
use Rattle.forward.specs.declared.Applies.{Applies}
use Rattle.forward.specs.declared.Applies.TheVariants.{Ordinary, Detour}
use Rattle.forward.specs.Forward.{cut_off, listed, steps, length_of}

-- 10 where a row is shorter than 1,022; 15 where the start is not a node; 16 where the failed node is not a node or is the root.
unfoldable pub ask_verdict : ℕ → ℕ → Ask → ℕ → ℕ → Verdict
ask_verdict n root a ordinary detour =
    firstly
    (refuse_if (ltb ordinary route_room || ltb detour route_room) NoRoom 0 ∷
    refuse_if (leb n a.start) BadStart 0 ∷
    refuse_if (leb n a.failed || eqb a.failed root) BadFailed 0 ∷ [])

-- 17: the start is cut off, and x has no swap link.
unfoldable pub stranded : Net → Ask → Bool
stranded g a = cut_off g a && not (eqb (entry g a.failed).state swap_state)

-- The order: 1 to 4, 14, 5 to 10, 15, 16, 17 at the failed node.
unfoldable pub forward_verdict : Net → Ask → List ℕ → List ℕ → Verdict
forward_verdict g a ordinary detour =
    firstly
    (net_verdict g ∷
    ask_verdict g.nodes g.search.root a (length ordinary) (length detour) ∷
    refuse_if (stranded g a) NoSwap a.failed ∷ [])

-- How many nodes the list has, and how long it is.
unfoldable pub way : Net → Ask → Way
way g a = record { nodes = length (listed g a); length = length_of g (steps g a) }

-- The row that applies where the verdict is taken, else the refusal.
abbrev pub applies_if : Verdict → Applies → Result Applies Refusal
applies_if (Ok _) it = Ok it
applies_if (Err r) it = Err r

-- What the call answers: which row applies and its list's way, or the refusal.
unfoldable pub applies : Net → Ask → List ℕ → List ℕ → Result Applies Refusal
applies g a ordinary detour =
    applies_if (forward_verdict g a ordinary detour) (cond (cut_off g a) (Detour (way g a)) (Ordinary (way g a)))

-- A row with the list at its beginning, and the rest as it was.
unfoldable pub row_of : List ℕ → List ℕ → List ℕ
row_of list row = list ++ drop (length list) row

-- What the ordinary row then holds: the list at its beginning, where nothing is refused and the start is not cut off; else what it held.
unfoldable pub ordinary_row : Net → Ask → List ℕ → List ℕ → List ℕ
ordinary_row g a ordinary detour =
    let new = cond (cut_off g a) ordinary (row_of (listed g a) ordinary) in
    if_taken (forward_verdict g a ordinary detour) new ordinary

-- What the detour row then holds: the list at its beginning, where nothing is refused and the start is cut off; else what it held.
unfoldable pub detour_row : Net → Ask → List ℕ → List ℕ → List ℕ
detour_row g a ordinary detour =
    let new = cond (cut_off g a) (row_of (listed g a) detour) detour in
    if_taken (forward_verdict g a ordinary detour) new detour

-- The row that applies; on a refusal the ordinary one.
abbrev pub row_for : {A : Type 0} → Result Applies Refusal → A → A → A
row_for (Ok (Ordinary w)) ordinary detour = ordinary
row_for (Ok (Detour w)) ordinary detour = detour
row_for (Err r) ordinary detour = ordinary

-- How many nodes of it are used; none on a refusal.
abbrev pub used : Result Applies Refusal → ℕ
used (Ok (Ordinary w)) = w.nodes
used (Ok (Detour w)) = w.nodes
used (Err r) = 0

-- The used part of the row that applies; empty on a refusal.
unfoldable pub used_part : Result Applies Refusal → List ℕ → List ℕ → List ℕ
used_part it ordinary detour = take (used it) (row_for it ordinary detour)

-- The refusal's number; 0 where there is none.
abbrev pub number_said : Result Applies Refusal → ℕ
number_said (Ok (Ordinary w)) = 0
number_said (Ok (Detour w)) = 0
number_said (Err r) = number_of r.why

-- The refusal's place; 0 where there is none.
abbrev pub place_said : Result Applies Refusal → ℕ
place_said (Ok (Ordinary w)) = 0
place_said (Ok (Detour w)) = 0
place_said (Err r) = r.place

-- The part handed back: of the row that applies, as it then stands.
unfoldable pub handed : Net → Ask → List ℕ → List ℕ → List ℕ
handed g a ordinary detour = used_part (applies g a ordinary detour) (ordinary_row g a ordinary detour) (detour_row g a ordinary detour)
