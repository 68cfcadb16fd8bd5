-- Two outcomes that a promise allows are equal: one theorem a public function, in the words of its contract. Assumes nothing.
use Rattle.std.proofs.Common.{ℕ, List}
use Rattle.edition.specs.declared.Search.{Search}
use Rattle.network.specs.Network.{net_of}
use Rattle.tree.specs.Answers.{begun, stepped, room_verdict, row_verdict, distance_row, way_verdict, route_answer, route_row, meet_answer, apart_answer}
use Rattle.tree.specs.Tree.{tree_of, has_route}
use Rattle.tree.specs.declared.Climb.{Climb}
use Rattle.edition.proofs.Only.{One, one}

-- `tree::up`
pub one_up :
    (links parents : List ℕ) (search : Search) (u : ℕ) →
    let g = net_of links parents search in
    One ((tree_of g).up u)
one_up links parents search u = one _

-- `tree::rise`
pub one_rise :
    (links parents : List ℕ) (search : Search) (u : ℕ) →
    let g = net_of links parents search in
    One ((tree_of g).rise u)
one_rise links parents search u = one _

-- `tree::Climb::begin`
pub one_climb_begin : (u : ℕ) → One (begun u)
one_climb_begin u = one _

-- `tree::Climb::step`
pub one_climb_step :
    (self : Climb) (links parents : List ℕ) (search : Search) →
    let g = net_of links parents search in
    One (stepped (tree_of g) self)
one_climb_step self links parents search = one _

-- `tree::has_route`
pub one_has_route :
    (links parents : List ℕ) (search : Search) (u : ℕ) →
    let g = net_of links parents search in
    One (has_route (tree_of g) u)
one_has_route links parents search u = one _

-- `tree::check_row`
pub one_check_row : (n room : ℕ) → One (room_verdict n room)
one_check_row n room = one _

-- `tree::distances`
pub one_distances :
    (links parents : List ℕ) (search : Search) (row : List ℕ) →
    let g = net_of links parents search in
    One (row_verdict g row)
    × One (distance_row g row)
one_distances links parents search row = (one _, one _)

-- `tree::check_way`
pub one_check_way :
    (links parents : List ℕ) (search : Search) (u : ℕ) →
    let g = net_of links parents search in
    One (way_verdict g u)
one_check_way links parents search u = one _

-- `tree::route`
pub one_route :
    (links parents : List ℕ) (search : Search) (u : ℕ) (row : List ℕ) →
    let g = net_of links parents search in
    One (route_answer g u row)
    × One (route_row g u row)
one_route links parents search u row = (one _, one _)

-- `tree::meet_of`
pub one_meet_of :
    (links parents : List ℕ) (search : Search) (u z : ℕ) →
    let g = net_of links parents search in
    One (meet_answer g u z)
one_meet_of links parents search u z = one _

-- `tree::tree_distance`
pub one_tree_distance :
    (links parents : List ℕ) (search : Search) (u z : ℕ) →
    let g = net_of links parents search in
    One (apart_answer g u z)
one_tree_distance links parents search u z = one _
