-- Which of SCOPE's numbers what is asked of the tree alone can give, and no other. Assumes nothing.
use Rattle.std.proofs.Common.{ℕ, List, [], ◌∷◌, refl}
use Rattle.edition.specs.declared.Why.TheVariants.{NodeCount, NoRoute, NoRoom}
use Rattle.edition.specs.Refusals.{number_of}
use Rattle.rows.specs.Lists.{has}
use Rattle.rows.proofs.Numbered.{Gives, if_gives, none_gives, first_gives, gives_left}
use Rattle.network.specs.Network.{Net}
use Rattle.tree.specs.Answers.{room_verdict, way_verdict, route_verdict, ways_verdict}

-- of the tree alone: 1 and 10 for all distances; 1 and 8 for one node or two; 1, 8 and 10 for a route
pub room_gives : (n room : ℕ) → Gives (1 ∷ 10 ∷ []) (room_verdict n room)
unfolding room_verdict number_of has
room_gives n room =
    first_gives _ _ _ (if_gives (1 ∷ 10 ∷ []) _ NodeCount 0 refl)
    (first_gives _ _ _ (if_gives (1 ∷ 10 ∷ []) _ NoRoom 0 refl) (none_gives (1 ∷ 10 ∷ [])))

pub way_gives : (g : Net) (u : ℕ) → Gives (1 ∷ 8 ∷ []) (way_verdict g u)
unfolding way_verdict number_of has
way_gives g u =
    first_gives _ _ _ (if_gives (1 ∷ 8 ∷ []) _ NodeCount 0 refl)
    (first_gives _ _ _ (if_gives (1 ∷ 8 ∷ []) _ NoRoute u refl) (none_gives (1 ∷ 8 ∷ [])))

pub route_gives : (g : Net) (u : ℕ) (row : List ℕ) → Gives (1 ∷ 8 ∷ 10 ∷ []) (route_verdict g u row)
unfolding route_verdict number_of has
route_gives g u row =
    first_gives _ _ _ (gives_left (1 ∷ 8 ∷ []) (10 ∷ []) _ (way_gives g u))
    (first_gives _ _ _ (if_gives (1 ∷ 8 ∷ 10 ∷ []) _ NoRoom 0 refl) (none_gives (1 ∷ 8 ∷ 10 ∷ [])))

pub ways_give : (g : Net) (u z : ℕ) → Gives (1 ∷ 8 ∷ []) (ways_verdict g u z)
unfolding ways_verdict
ways_give g u z = first_gives _ _ _ (way_gives g u) (first_gives _ _ _ (way_gives g z) (none_gives (1 ∷ 8 ∷ [])))
