-- What holds while memory's limits are edition 1's: each file that the writer makes is accepted. Assumes nothing.
use mathlib.Core.Path.{◌≡◌}
use mathlib.Core.Bool.{false}
use mathlib.Core.List.{List}
use Prim.Native.Nat.{ℕ, ◌≤◌}
use native.Mathlib.Omega.{arith}
use lib.ListN.{length, get_or}
use Rattle.edition.specs.declared.Search.{Search}
use Rattle.edition.specs.declared.Aim.{Aim}
use Rattle.edition.specs.Refusals.{taken}
use Rattle.edition.specs.Limits.{memory_limits, longest}
use Rattle.edition.specs.Stored.{edition_limits, by_number}
use Rattle.edition.proofs.Within.{Within}
use Rattle.rows.proofs.Refusing.{head_taken}
use Rattle.network.specs.Network.{links_in, net_of}
use Rattle.network.specs.Records.{size_verdict}
use Rattle.network.proofs.Sizes.{sizes_grow}
use Rattle.sound.specs.Sound.{net_verdict}
use Rattle.archive.specs.Writer.{file_of}
use Rattle.archive.specs.Reader.{Rows, too_short, read_verdict}
use Rattle.archive.proofs.WrittenAccepted.{written_accepted}

-- today memory's limits are within edition 1's too
pub memory_within : Within memory_limits edition_limits
memory_within = record { nodes = omega arith; links = omega arith; depth = omega arith }

sizes_fit :
    (links parents : List ℕ) (search : Search)
    → net_verdict (net_of links parents search) ≡ taken
    → size_verdict edition_limits (length parents) (links_in links) search ≡ taken
unfolding net_verdict net_of
sizes_fit links parents search ok =
    sizes_grow memory_limits edition_limits memory_within (length parents) (links_in links) search (head_taken _ _ ok)

-- the file of every sound network, of rows whose numbers have 16 bits, is taken where the lent rows have room
pub sound_accepted :
    (links parents : List ℕ) (aim : Aim)
    → net_verdict (net_of links parents (by_number aim)) ≡ taken → ((i : ℕ) → get_or links i 0 ≤ longest) → (rows : Rows)
    → too_short (length parents) (links_in links) rows ≡ false
    → read_verdict (file_of (net_of links parents (by_number aim))) rows ≡ taken
sound_accepted links parents aim ok held rows room =
    written_accepted links parents aim ok (sizes_fit links parents (by_number aim) ok) held rows room
