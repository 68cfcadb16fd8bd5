-- What private functions of this crate promise each other. No public promise cites this page. Assumes nothing.
use Rattle.std.specs.Prelude.{◌≡◌, Bool, cond, List, ℕ, ◌<◌, eqb, length, get_or, set}
use Rattle.edition.specs.declared.Change.{Change}
use Rattle.edition.specs.declared.Search.{Search}
use Rattle.network.specs.Network.{net_of, links_in}
use Rattle.sound.specs.Surveyed.{Surveyed}

-- the other of 0 and 1
unfoldable pub flip : ℕ → ℕ
flip a = cond (eqb a 0) 1 0

-- a row in which the mark of c is the other one
unfoldable pub flipped_at : ℕ → List ℕ → List ℕ
flipped_at c row = set row c (flip (get_or row c 0))

-- a row in which the numbers of some nodes went through f, and all others stayed
pub record Moved (done : ℕ → Bool) (f : ℕ → ℕ) (before after : List ℕ) : Type 0 where
  pub size : length after ≡ length before
  pub each : (x : ℕ) → get_or after x 0 ≡ cond (done x) (f (get_or before x 0)) (get_or before x 0)

-- a surveyed network that has the link of a change
pub record Short (links parents : List ℕ) (search : Search) (survey : List ℕ) (c : Change) : Type 0 where
  pub surveyed : Surveyed (net_of links parents search) survey
  pub there : c.link < links_in links
