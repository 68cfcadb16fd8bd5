-- What waits in the buffer by way of which text is printed. Assumes nothing.
use Rattle.std.specs.Prelude.{◌≡◌, cond, List, [], ◌∷◌, ◌++◌, ℕ, ◌+◌, ◌-◌, ◌/◌, ◌%◌, ◌≤◌, leb, length, take}
use Rattle.io.specs.Digits.{hex_digit_ascii, last_digits, IsDigitCount}

-- Where n bytes go in a buffer of this size: behind what waits, or to the beginning where there is no room for them. What
-- waits is written out first then.
unfoldable pub place_for : ℕ → ℕ → ℕ → ℕ
place_for size at n = cond (leb (at + n) size) at 0

-- What waits once the text is put: what stands before its place, and the text; or nothing where the whole buffer is too short
-- for it. It is written out at once then.
unfoldable pub waits : List ℕ → ℕ → List ℕ → List ℕ
waits out at text =
    let place = place_for (length out) at (length text) in
    cond (leb (length text) (length out - place)) (take place out ++ text) []

-- The first `at` bytes of the buffer are this text.
pub record Holds (out : List ℕ) (at : ℕ) (text : List ℕ) : Type 0 where
  pub room : at ≤ length out
  pub is : take at out ≡ text

-- A byte in hexadecimal: two digits, in lower case.
unfoldable pub hex_of : ℕ → List ℕ
hex_of byte = hex_digit_ascii (byte / 16) ∷ hex_digit_ascii (byte % 16) ∷ []

-- The number is put in decimal, by the fewest digits.
pub record Numbered (before : List ℕ) (at n : ℕ) (after : List ℕ) (now : ℕ) : Type 0 where
  pub count : ℕ
  pub fewest : IsDigitCount 10 1 n count
  pub holds : Holds after now (waits before at (last_digits 10 count n))
