-- Two outcomes that a promise allows are equal, where the promise is an equation for the answer and for every lent row: both are
-- what the definitions say. That the theorems in Outcomes.antt name the promises is seen to by `tools/outcomes`, which writes them
-- from the contracts. Assumes nothing.
use mathlib.Core.Path.{◌≡◌, sym, ◌∙◌}

-- of what a promise says there is only one: an answer, or what a lent row holds at the end
abbrev pub One : {A : Type 0} → A → Type 0
One {A} said = (a b : A) → a ≡ said → b ≡ said → a ≡ b

pub one : {A : Type 0} (said : A) → One said
one said a b p q = p ∙ sym q
