-- `forward::fill` meets its contract. Assumes nothing.
use lib.ListN.{replicate}
use Rattle.rows.proofs.Refusing.{handed}
use Rattle.survey.specs.Row.{known_room}
use Rattle.survey.proofs.Records.{full_room}
use Rattle.sound.proofs.Surveying.{surveyed}
use Rattle.forward.proofs.Asking.{told_net, is_taken, told_ask, fits, start-node, cut_asked, told-cut, told_free}
use Rattle.forward.proofs.fill.Goals as goal

pub returns-in_err-survey_network : goal.returns-in_err-survey_network
returns-in_err-survey_network c =
    rw (handed _ _ c.from_residual.ensures.1) (told_net _ _ _ _ _ _ c.survey_network.ensures.0 c.in_err-survey_network.was)

pub returns-in_err-check_ask : goal.returns-in_err-check_ask
returns-in_err-check_ask c =
    rw (handed _ _ c.from_residual-in_err-check_ask.ensures.1) (
    told_ask _ _ _ _ _ _ c.survey_network.ensures.0 c.in_ok-survey_network.was c.check_ask.ensures c.in_err-check_ask.was
    )

pub is_under-requires : goal.is_under-requires
is_under-requires c =
    start-node _ _ _ _ c.args.ordinary.now c.args.detour.now c.survey_network.ensures.0 c.in_ok-survey_network.was
    c.check_ask.ensures c.in_ok-check_ask.was

pub detour_by-requires : goal.detour_by-requires
detour_by-requires c =
    let ok = is_taken _ _ _ c.args.ask c.args.ordinary.now c.args.detour.now c.survey_network.ensures.0 c.in_ok-survey_network.was in
    let row = surveyed c.args.net.links.now c.args.net.parents.now c.args.net.search c.args.net.short
    (replicate known_room 0) _ full_room ok c.survey_network.ensures.1 in (
      cut_asked _ _ _ _ c.args.ordinary.now c.args.detour.now c.survey_network.ensures.0 c.in_ok-survey_network.was c.check_ask.ensures c.in_ok-check_ask.was
          c.is_under.ensures c.if-is_under.true row,
      (fits _ _ _ _ c.args.ordinary.now c.args.detour.now c.survey_network.ensures.0 c.in_ok-survey_network.was
          c.check_ask.ensures c.in_ok-check_ask.was).detour-room,
    )

pub returns-then-is_under : goal.returns-then-is_under
returns-then-is_under c =
    told-cut _ _ _ _ _ _ c.survey_network.ensures.0 c.in_ok-survey_network.was c.check_ask.ensures c.in_ok-check_ask.was
    c.is_under.ensures
    c.if-is_under.true c.detour_by.ensures.0
    c.detour_by.ensures.1

pub list_route-requires : goal.list_route-requires
list_route-requires c = (
  start-node _ _ _ _ c.args.ordinary.now c.args.detour.now c.survey_network.ensures.0 c.in_ok-survey_network.was c.check_ask.ensures c.in_ok-check_ask.was,
  (fits _ _ _ _ c.args.ordinary.now c.args.detour.now c.survey_network.ensures.0 c.in_ok-survey_network.was
      c.check_ask.ensures c.in_ok-check_ask.was).ordinary_room,
)

pub returns : goal.returns
returns c =
    told_free _ _ _ _ _ _ c.survey_network.ensures.0 c.in_ok-survey_network.was c.check_ask.ensures c.in_ok-check_ask.was
    c.is_under.ensures c.if-is_under.false
    c.list_route.ensures.0 c.list_route.ensures.1
