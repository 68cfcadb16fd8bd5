-- The refusal numbers of SCOPE, in one table. Assumes nothing.
use Rattle.std.specs.Prelude.{List, [], ◌∷◌, ℕ, Result, Ok, Err}
use Rattle.edition.specs.declared.Why.{Why}
use Rattle.edition.specs.declared.Why.TheVariants.{NodeCount, LinkCount, BadRoot, BadDepth, BadRule, BadEnds, BadMark, BadParent, NoRoute, NotShort}
use Rattle.edition.specs.declared.Why.TheVariants.{NoRoom, LinkMissing, TreeLink, BreaksShort, BadStart, BadFailed, NoSwap}
use Rattle.edition.specs.declared.Why.TheVariants.{BadLength, BadCheck, BadBlock, BadEntry}
use Rattle.edition.specs.declared.Refusal.{Refusal}

-- The number that SCOPE gives each refusal.
unfoldable pub number_of : Why → ℕ
number_of NodeCount = 1
number_of LinkCount = 2
number_of BadRoot = 3
number_of BadDepth = 4
number_of BadRule = 14
number_of BadEnds = 5
number_of BadMark = 6
number_of BadParent = 7
number_of NoRoute = 8
number_of NotShort = 9
number_of NoRoom = 10
number_of LinkMissing = 11
number_of TreeLink = 12
number_of BreaksShort = 13
number_of BadStart = 15
number_of BadFailed = 16
number_of NoSwap = 17
number_of BadLength = 20
number_of BadCheck = 21
number_of BadBlock = 22
number_of BadEntry = 24

-- What a check says: nothing more where it takes what it checks, else a refusal.
abbrev pub Verdict : Type 0
Verdict = Result Unit Refusal

-- The verdict that refuses nothing.
abbrev pub taken : Verdict
taken = Ok tt

-- Refused, with a reason and a place.
abbrev pub refused : Why → ℕ → Verdict
refused why place = Err (record { why = why; place = place })

-- A verdict in numbers: 0 and 0 where it is taken, else the refusal's number and place.
unfoldable pub said : Verdict → List ℕ
said (Ok _) = 0 ∷ 0 ∷ []
said (Err r) = number_of r.why ∷ r.place ∷ []

-- The first where the verdict is taken, the second where it refuses.
abbrev pub if_taken : {A : Type 0} → Verdict → A → A → A
if_taken (Ok _) x y = x
if_taken (Err r) x y = y
