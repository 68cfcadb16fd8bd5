-- `table::climb_link` meets its contract. Assumes nothing.
use Rattle.table.proofs.Linking.{first_less, second_less, between_more, between_end, between_start, between_turn}
use Rattle.table.proofs.Linking.{node-ranked, first_next, offering, stepping, Turn}
use Rattle.std.proofs.Common.{ℕ, List, sym, arith}
use Rattle.network.specs.Network.{Net}
use Rattle.table.specs.Work.{Climbing}
use Rattle.table.proofs.climb_link.Goals as goal
use Rattle.table.proofs.climb_link.Goals.{Then-rank_at, Else-rank_at}

-- which of the two goes on, the one without the higher rank
second-turn :
    (c : Then-rank_at) (g : Net) (asked : List ℕ)
    → Climbing g c.args.search c.args.links.now asked c.args.survey.now c.args.ranks.now c.args.entries.now c.args.e c.args.k c.args.first c.args.second
    → Turn g c.args.survey.now asked c.args.e c.args.k c.args.entries.now c.loop-search.b c.loop-search.a c.loop-search.entries
second-turn c g asked h =
    first_next (between_turn (c.loop-search.invariant g asked h)) h.searching.ranked c.rank_at-in-loop-search.ensures c.rank_at.ensures
    (λ q. c.loop-search-test.true (sym q)) (omega arith)

first-turn :
    (c : Else-rank_at) (g : Net) (asked : List ℕ)
    → Climbing g c.args.search c.args.links.now asked c.args.survey.now c.args.ranks.now c.args.entries.now c.args.e c.args.k c.args.first c.args.second
    → Turn g c.args.survey.now asked c.args.e c.args.k c.args.entries.now c.loop-search.a c.loop-search.b c.loop-search.entries
first-turn c g asked h =
    first_next (c.loop-search.invariant g asked h) h.searching.ranked c.rank_at.ensures c.rank_at-in-loop-search.ensures
    c.loop-search-test.true (omega arith)

pub loop-search-init : goal.loop-search-init
loop-search-init c =
    λ g asked h. between_start h

pub rank_at-requires : goal.rank_at-requires
rank_at-requires c =
    node-ranked (c.loop-search.invariant _ _ c.requires.2) c.requires.2.searching.ranked

pub rank_at-requires-in-loop-search : goal.rank_at-requires-in-loop-search
rank_at-requires-in-loop-search c =
    node-ranked (between_turn (c.loop-search.invariant _ _ c.requires.2)) c.requires.2.searching.ranked

pub rank_at-requires-in-loop-search-2 : goal.rank_at-requires-in-loop-search-2
rank_at-requires-in-loop-search-2 c =
    node-ranked (between_turn (c.loop-search.invariant _ _ c.requires.2)) c.requires.2.searching.ranked

pub rank_at-requires-in-loop-search-3 : goal.rank_at-requires-in-loop-search-3
rank_at-requires-in-loop-search-3 c =
    node-ranked (c.loop-search.invariant _ _ c.requires.2) c.requires.2.searching.ranked

pub offer_here-requires : goal.offer_here-requires
offer_here-requires c =
    let turn = second-turn (goal.at.offer_here-requires c).Then-rank_at _ _ c.requires.2 in
    (c.requires.0, c.requires.1, offering turn c.requires.2)

pub step-b-requires : goal.step-b-requires
step-b-requires c =
    (c.requires.0, stepping (second-turn (goal.at.step-b-requires c).Then-rank_at _ _ c.requires.2))

pub loop-search-smaller-then-rank_at : goal.loop-search-smaller-then-rank_at
loop-search-smaller-then-rank_at c =
    let turn = second-turn (goal.at.loop-search-smaller-then-rank_at c).Then-rank_at _ _ c.requires.2 in
    second_less turn (c.step-b.ensures _ (stepping turn))

pub loop-search-preserved-then-rank_at : goal.loop-search-preserved-then-rank_at
loop-search-preserved-then-rank_at c =
    λ g asked h.
    let turn = second-turn (goal.at.loop-search-preserved-then-rank_at c).Then-rank_at g asked h in
    between_turn
    (between_more turn (c.step-b.ensures g (stepping turn)) (c.offer_here.ensures g asked (offering turn h)) c.offer_here.auto.entries)

pub offer_here-requires-else-rank_at : goal.offer_here-requires-else-rank_at
offer_here-requires-else-rank_at c =
    let turn = first-turn (goal.at.offer_here-requires-else-rank_at c).Else-rank_at _ _ c.requires.2 in
    (c.requires.0, c.requires.1, offering turn c.requires.2)

pub step-a-requires : goal.step-a-requires
step-a-requires c =
    (c.requires.0, stepping (first-turn (goal.at.step-a-requires c).Else-rank_at _ _ c.requires.2))

pub loop-search-smaller : goal.loop-search-smaller
loop-search-smaller c =
    let turn = first-turn (goal.at.loop-search-smaller c).Else-rank_at _ _ c.requires.2 in
    first_less turn (c.step-a.ensures _ (stepping turn))

pub loop-search-preserved : goal.loop-search-preserved
loop-search-preserved c =
    λ g asked h.
    let turn = first-turn (goal.at.loop-search-preserved c).Else-rank_at g asked h in
    between_more turn (c.step-a.ensures g (stepping turn)) (c.offer_here-else-rank_at.ensures g asked (offering turn h))
    c.offer_here-else-rank_at.auto.entries

pub returns : goal.returns
returns c =
    λ g asked h.
    between_end (c.loop-search.invariant g asked h) h.searching.ranked c.rank_at.ensures c.rank_at-in-loop-search.ensures c.loop-search-test.false
