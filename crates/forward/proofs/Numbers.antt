-- Which of SCOPE's numbers the forwarder can give, and no other. Assumes nothing.
use mathlib.Core.Path.{refl}
use mathlib.Core.List.{List, [], ◌∷◌, ◌++◌}
use Prim.Native.Nat.{ℕ}
use Rattle.edition.specs.declared.Why.TheVariants.{NoRoom, BadStart, BadFailed, NoSwap}
use Rattle.edition.specs.Refusals.{number_of}
use Rattle.rows.specs.Lists.{has}
use Rattle.rows.proofs.Numbered.{Gives, if_gives, none_gives, first_gives, gives_left}
use Rattle.network.specs.Network.{Net}
use Rattle.sound.proofs.Numbers.{of_network, net_gives}
use Rattle.forward.specs.declared.Ask.{Ask}
use Rattle.forward.specs.Answers.{ask_verdict, forward_verdict}

-- 1 to 10, 14, 15, 16 and 17
abbrev pub of_forwarder : List ℕ
of_forwarder = of_network ++ 10 ∷ 15 ∷ 16 ∷ 17 ∷ []

ask_gives : (n root : ℕ) (a : Ask) (ordinary detour : ℕ) → Gives of_forwarder (ask_verdict n root a ordinary detour)
unfolding ask_verdict number_of has
ask_gives n root a ordinary detour =
    first_gives of_forwarder _ _ (if_gives of_forwarder _ NoRoom 0 refl)
    (first_gives of_forwarder _ _ (if_gives of_forwarder _ BadStart 0 refl)
    (first_gives of_forwarder _ _ (if_gives of_forwarder _ BadFailed 0 refl) (none_gives of_forwarder)))

pub forward_gives : (g : Net) (a : Ask) (ordinary detour : List ℕ) → Gives of_forwarder (forward_verdict g a ordinary detour)
unfolding forward_verdict number_of has
forward_gives g a ordinary detour =
    first_gives of_forwarder _ _ (gives_left of_network (10 ∷ 15 ∷ 16 ∷ 17 ∷ []) _ (net_gives g))
    (first_gives of_forwarder _ _ (ask_gives _ _ a _ _)
    (first_gives of_forwarder _ _ (if_gives of_forwarder _ NoSwap a.failed refl) (none_gives of_forwarder)))
