-- Two outcomes that a promise allows are equal: one theorem a public function, in the words of its contract. Assumes nothing.
use Rattle.std.specs.Prelude.{Result}
use Prim.Native.Nat.{ℕ}
use mathlib.Core.List.{List}
use Rattle.edition.specs.declared.Search.{Search}
use Rattle.network.specs.Network.{net_of}
use Rattle.sound.specs.Sound.{keeps_short, checked, handed_up}
use Rattle.sound.specs.Surveyed.{sound_verdict, sound_row}
use Rattle.edition.specs.declared.Refusal.{Refusal}
use Rattle.sound.specs.declared.Sizes.{Sizes}
use Rattle.edition.proofs.Only.{One, one}

-- `sound::keeps_short`
pub one_keeps_short : (p q w : ℕ) → One (keeps_short p q w)
one_keeps_short p q w = one _

-- `sound::check_network`
pub one_check_network :
    (links parents : List ℕ) (search : Search) →
    let g = net_of links parents search in
    One (checked g)
one_check_network links parents search = one _

-- `sound::handed_up`
pub one_handed_up : (said : Result Sizes Refusal) → One (handed_up said)
one_handed_up said = one _

-- `sound::survey_network`
pub one_survey_network :
    (links parents : List ℕ) (search : Search) (survey : List ℕ) →
    let g = net_of links parents search in
    One (sound_verdict g survey)
    × One (sound_row g survey)
one_survey_network links parents search survey = (one _, one _)
