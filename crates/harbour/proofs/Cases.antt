-- The Harbour case (P1 to P12, the lists of the forwarder, the pairs of nodes) and the Quay case (both tie rules) hold: one theorem that
-- the checker computes. Assumes nothing.
use mathlib.Core.Path.{◌≡◌, refl}
use mathlib.Core.Bool.{true}
use mathlib.Core.List.{List, [], ◌∷◌}
use Rattle.rows.proofs.Tests.{and_left, and_right}
use Rattle.rows.proofs.Listed.{same_equal}
use Rattle.harbour.specs.Asking.{Case, ◌gives◌, net_in, nine, room, list_room, list_said, numbers_of, answer, holds}
use Rattle.harbour.specs.Harbour.{links, parents, harbour, links_turned, turned, round, alone, root_entry, bridge, one, two, three}
use Rattle.harbour.specs.Harbour.{one_turned, three_turned, right, links_seven, links_nine, two_seven, one_nine, two_nine, cases}
use Rattle.harbour.specs.Quay.{links_with, links as quay_links, parents as quay_parents, quay_with, quay, by_number, by_nearness}
use Rattle.harbour.specs.Quay.{root_entry as quay_root, one_by_number, one_by_nearness, two as quay_two, three as quay_three, four, five, none, table_with}
use Rattle.harbour.specs.Quay.{one_longer, three_longer, four_longer, longer, three_longest, four_longest, one_without, links_loose, cases as quay_cases}
use Rattle.edition.specs.Refusals.{number_of, said}
use Rattle.rows.specs.Count.{sum_to, max_to, some_to, rows_to, only_if, row_with}
use Rattle.rows.specs.First.{or_here, first_to, found_or, refused_at, refuse_at, refuse_if, firstly}
use Rattle.rows.specs.Lists.{has, up_to, first_of, total, same, sooner}
use Rattle.network.specs.Network.{link_row, link_from, link_in, put_link, net_of, is_parent, in_service, touches, other_end}
use Rattle.network.specs.Records.{bad_nodes, bad_links, bad_root, bad_depth, bad_rule, size_verdict, bad_ends, bad_mark, unfit, bad_parent}
use Rattle.tree.specs.Tree.{tree_of, climb, route, arrives, has_route, dist, under, hops, way_up, meet, apart, on_path, inside}
use Rattle.tree.specs.Answers.{lost, way_verdict, ways_verdict, meet_answer, apart_answer}
use Rattle.sound.specs.Sound.{no_route, keeps_short, short, not_short, record_verdict, net_verdict, checked}
use Rattle.swap.specs.Swap.{inner_end, outer_end, lower_mark, crosses, within, candidate, new_dist, cost, cost_of, key_by, key, before, best}
use Rattle.swap.specs.Entry.{crossed, has_candidate, state, priced, swap_of, entry}
use Rattle.rows.specs.Records.{record_in, with_record, past_records}
use Rattle.entries.specs.Row.{entry_row, standing, past_entries}
use Rattle.table.specs.Table.{table, table_verdict, table_row, is_asked, fresh_at, fresh_row}
use Rattle.map.specs.Map.{unprotected, word, map_of, count_unprotected, lowest, map_verdict, map_row}
use Rattle.forward.specs.Forward.{cut_off, swap_link, lower_end, upper_end, around, steps_up, steps_around, detour, listed, steps, length_of}
use Rattle.forward.specs.Answers.{ask_verdict, stranded, forward_verdict, way, applies, row_of, ordinary_row, detour_row, used_part, handed}
use Rattle.change.specs.Change.{breaks, change_verdict, set_link, mended_at, mended, changed}

pub both_hold : (holds cases ≡ true) × (holds quay_cases ≡ true)
unfolding number_of entry_row sum_to max_to some_to rows_to only_if row_with or_here first_to found_or refused_at refuse_at
    refuse_if firstly has up_to first_of total same sooner record_in with_record past_records standing past_entries link_row link_from
    link_in put_link net_of in_service touches other_end bad_nodes bad_links bad_root bad_depth bad_rule size_verdict bad_ends bad_mark unfit
    bad_parent tree_of climb route arrives has_route dist under hops way_up meet apart on_path no_route keeps_short short
    not_short record_verdict net_verdict checked inner_end outer_end lower_mark crosses within candidate new_dist inside cost cost_of key_by
    key before best crossed has_candidate state priced swap_of entry table table_verdict table_row is_asked fresh_at
    fresh_row unprotected word map_of count_unprotected lowest map_verdict map_row is_parent breaks change_verdict set_link mended_at mended
    changed cut_off swap_link lower_end upper_end around steps_up steps_around detour listed steps length_of ask_verdict stranded forward_verdict
    way applies row_of ordinary_row detour_row used_part handed lost way_verdict ways_verdict meet_answer apart_answer
    net_in nine room list_room list_said numbers_of said answer holds
    links parents harbour links_turned turned round alone root_entry bridge one two three one_turned three_turned right links_seven
    links_nine two_seven one_nine two_nine cases
    links_with quay_links quay_parents quay_with quay by_number by_nearness quay_root one_by_number one_by_nearness quay_two quay_three four five none
    table_with one_longer three_longer four_longer longer three_longest four_longest one_without links_loose quay_cases
both_hold = (refl, refl)

-- each case as an equation, to be cited by what the promises say
pub Each : List Case → Type 0
Each [] = Unit {0}
Each ((q gives a) ∷ rest) = (answer q ≡ a) × Each rest

each : (cs : List Case) → holds cs ≡ true → Each cs
unfolding holds Each
each [] h = tt
each ((q gives a) ∷ rest) h =
    (same_equal (answer q) a (and_left (same (answer q) a) (holds rest) h), each rest (and_right (same (answer q) a) (holds rest) h))

pub harbour-cases : Each cases
harbour-cases = each cases both_hold.0

pub quay-cases : Each quay_cases
quay-cases = each quay_cases both_hold.1
