-- A number at a place of a row. Assumes nothing.
use mathlib.Core.Path.{◌≡◌}
use mathlib.Core.List.{List}
use Prim.Native.Nat.{ℕ, ◌<◌}
use lib.ListN.{length, get_or}
use lib.Seq.{drop-cons}

-- inside a row it does not matter what stands for its end
pub no_default : (l : List ℕ) (i d e : ℕ) → i < length l → get_or l i d ≡ get_or l i e
no_default l i d e h =
    let p = drop-cons l i d h in
    let q = drop-cons l i e h in
    cc
