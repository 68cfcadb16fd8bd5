-- `table::entry_of` meets its contract. Assumes nothing.
use Rattle.rows.proofs.Refusing.{handed}
use Rattle.table.proofs.Single.{entry-refused, entry_decided, one-node, one-is, one-not}
use Rattle.std.proofs.Common.{replicate, sym, ◌∙◌}
use Rattle.survey.specs.Row.{known_room}
use Rattle.survey.proofs.Records.{full_room}
use Rattle.sound.proofs.Surveying.{verdict_net, surveyed}
use Rattle.network.specs.Network.{net_of}
use Rattle.table.proofs.entry_of.Goals as goal

pub returns-in_err-survey_network : goal.returns-in_err-survey_network
unfolding net_of
returns-in_err-survey_network c =
    rw (handed _ _ c.from_residual.ensures.1) (
    one-not _ _ _
    (entry-refused _ _ _ _ (c.survey_network.ensures.0 ∙ verdict_net _ (replicate known_room 0) full_room)
    c.in_err-survey_network.was)
    _ c.in_err-survey_network.was)

pub entry_surveyed-requires : goal.entry_surveyed-requires
unfolding net_of
entry_surveyed-requires c =
    let is_taken = sym (c.survey_network.ensures.0 ∙ verdict_net _ (replicate known_room 0) full_room) ∙ c.in_ok-survey_network.was in (
      surveyed c.args.net.links.now c.args.net.parents.now c.args.net.search c.args.net.short
          (replicate known_room 0) _ full_room is_taken c.survey_network.ensures.1,
      one-node _ _ _ (entry_decided _ _ is_taken _ c.refuse_if.ensures) c.in_ok-refuse_if.was,
    )

pub returns : goal.returns
unfolding net_of
returns c =
    let is_taken = sym (c.survey_network.ensures.0 ∙ verdict_net _ (replicate known_room 0) full_room) ∙ c.in_ok-survey_network.was in
    one-is _ _ _ (entry_decided _ _ is_taken _ c.refuse_if.ensures) c.in_ok-refuse_if.was _ c.entry_surveyed.ensures

pub returns-in_err-refuse_if : goal.returns-in_err-refuse_if
unfolding net_of
returns-in_err-refuse_if c =
    rw (handed _ _ c.from_residual-in_err-refuse_if.ensures.1) (
    let is_taken = sym (c.survey_network.ensures.0 ∙ verdict_net _ (replicate known_room 0) full_room) ∙ c.in_ok-survey_network.was in
    one-not _ _ _ (entry_decided _ _ is_taken _ c.refuse_if.ensures) _ c.in_err-refuse_if.was)
