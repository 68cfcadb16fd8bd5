-- `network::put_link` meets its contract. Assumes nothing.
use native.Mathlib.Numerals.{towards_suc}
use Rattle.network.specs.Network.{link_row}
use Rattle.network.proofs.Keeping.{put_nothing, put_stored}
use Rattle.network.proofs.put_link.Goals as goal

pub returns-then-links-e : goal.returns-then-links-e
returns-then-links-e c =
    put_nothing _ _ _ c.if-links-e.true

pub returns : goal.returns
unfolding link_row
returns c =
    simp towards_suc (put_stored _ _ c.if-links-e.false _)
