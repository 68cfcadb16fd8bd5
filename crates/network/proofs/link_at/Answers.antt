-- `network::link_at` meets its contract. Assumes nothing.
use native.Mathlib.Omega.{arith}
use Rattle.network.specs.Network.{link_from}
use Rattle.network.proofs.Keeping.{link-none, link-there}
use Rattle.network.proofs.link_at.Goals as goal

pub returns-then-links-e : goal.returns-then-links-e
unfolding link_from
returns-then-links-e c =
    link-none _ _ c.if-links-e.true

pub returns : goal.returns
returns c =
    link-there _ _ (omega arith)
