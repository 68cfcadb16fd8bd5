-- The loop of `sound::first_breaking_in`: what it keeps. Assumes nothing.
use Rattle.std.specs.Prelude.{None}
use Rattle.rows.proofs.Seeking.{Seeking}
use Rattle.network.specs.Network.{link_in, links_in}
use Rattle.sound.specs.Work.{breaks_in}
use Rattle.sound.proofs.first_breaking_in.Given as goal

abbrev pub invariant-loop-e : goal.invariant-loop-e
invariant-loop-e l =
    Seeking (λ k. breaks_in l.survey (link_in l.links k)) (links_in l.links) l.e None
