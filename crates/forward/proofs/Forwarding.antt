-- What holds of a list that is handed back: it is a walk from the start to the root over links in service, without the failed tree link,
-- that fits its row; the failed node stands in a detour once, and the swap link is used once; and how long it is. Assumes nothing.
use Rattle.std.specs.Prelude.{Err, Ok}
use mathlib.Core.Path.{◌≡◌, refl, sym, ap, ap₂, ◌∙◌}
use mathlib.Core.Bool.{Bool, true, false, not, ◌&&◌, ◌||◌}
use mathlib.Core.List.{List, [], ◌∷◌, ◌++◌, reverse}
use Prim.Native.Nat.{ℕ, ◌+◌, ◌*◌, ◌<◌, ◌≤◌}
use native.Mathlib.Omega.{arith}
use lib.Dec.{eqb}
use lib.ListN.{length, drop, length-append, length-drop}
use lib.Seq.{take-append_seam, drop-append_seam}
use borrow.Author.Tests.{eqb-true, eq-eqb, ne_eqb, not-false}
use Rattle.edition.specs.declared.Refusal.{Refusal}
use Rattle.edition.specs.Refusals.{Verdict, taken, number_of}
use Rattle.edition.specs.declared.Why.TheVariants.{NoSwap}
use Rattle.edition.specs.Entries.{swap_state, none_state, bridge_state, swap_by}
use Rattle.edition.proofs.Numbered.{numbered}
use Rattle.edition.specs.Limits.{route_room}
use Rattle.rows.specs.Lists.{has, up_to}
use Rattle.rows.proofs.Tests.{either, or_right}
use Rattle.rows.proofs.Listed.{has-append, up_to-out, up_to_less}
use Rattle.rows.proofs.Refusing.{head_taken, rest-taken, if_taken_lem, if_passes, both_taken, none_left}
use Rattle.network.specs.Network.{Net, is_parent}
use Rattle.tree.specs.Tree.{Tree, tree_of, route, dist, under, meet, apart}
use Rattle.tree.proofs.Ways.{dist-cut, dist-root}
use Rattle.tree.proofs.Made.{rise-flat}
use Rattle.tree.proofs.Meeting.{meet_one, meet-two, meet-under, home-meet, apart_below}
use Rattle.sound.specs.Sound.{net_verdict}
use Rattle.swap.specs.Swap.{new_dist, crosses}
use Rattle.swap.specs.Entry.{entry}
use Rattle.swap.proofs.Ends.{end_by, other_by, entry-below}
use Rattle.swap.proofs.Stating.{Stated, swap, far, bridge, stated, entry-state}
use Rattle.sound.proofs.Holding.{first_in, second_in}
use Rattle.forward.specs.declared.Ask.{Ask}
use Rattle.forward.specs.declared.Applies.TheVariants.{Ordinary, Detour}
use Rattle.forward.specs.Forward.{cut_off, swap_link, lower_end, upper_end, around, steps_up, steps_around, detour, listed, steps, length_of}
use Rattle.forward.specs.Walk.{Walk}
use Rattle.forward.specs.Answers.{ask_verdict, stranded, forward_verdict, way, applies, row_of}
use Rattle.forward.specs.Answers.{ordinary_row, detour_row, used_part, number_said, place_said, handed}
use Rattle.forward.specs.Work.{Node, Around}
use Rattle.forward.proofs.Nodes.{fine, homed, size_is, top, to_top}
use Rattle.forward.proofs.Fitting.{route-fits, around-few-nodes, around-fits}
use Rattle.forward.proofs.Lengths.{steps-long, around-steps}
use Rattle.forward.proofs.Swapping.{stands, crossing, cut_around, route-listed, detour-listed}
use Rattle.forward.proofs.Filling.{Fits, ask_fits}
use Rattle.forward.proofs.Walking.{cross-step, route_walk, around_walk, walk_nodes, walk_some}
use Rattle.forward.proofs.Avoiding.{has-reverse, crossing_other, steps-parents, steps_avoid, crossing_unused}

-- 17 is for a start that is cut off where the failed node, which is not the root, has state 2 or 3
pub stranded-is :
    (g : Net) (a : Ask)
    → (a.failed ≡ g.search.root → ⊥)
    → stranded g a ≡ (cut_off g a && (eqb (entry g a.failed).state none_state || eqb (entry g a.failed).state bridge_state))
unfolding stranded
stranded-is g a off = ap (λ (b : Bool). cut_off g a && b) (rw (entry-state g a.failed) (go (stated g a.failed (ne_eqb a.failed g.search.root off))))
  where
    go : {s : ℕ} → Stated g a.failed s → not (eqb s swap_state) ≡ (eqb s none_state || eqb s bridge_state)
    go (swap p) = refl
    go (far p q) = refl
    go (bridge q) = refl

-- a start that is not cut off is taken where 1 to 16 refuse nothing, whatever the state of the failed node
pub free-taken :
    (g : Net) (a : Ask) (ordinary detour : List ℕ)
    → net_verdict g ≡ taken → ask_verdict g.nodes g.search.root a (length ordinary) (length detour) ≡ taken → cut_off g a ≡ false
    → forward_verdict g a ordinary detour ≡ taken
unfolding forward_verdict stranded
free-taken g a ordinary detour t f free =
    both_taken _ _ t (both_taken _ _ f (both_taken _ _ (if_passes _ NoSwap a.failed (rw free)) none_left))

-- on a refusal both rows stay, the number and the place are its own, and an empty part is handed back
pub refused_rows :
    (g : Net) (a : Ask) (ordinary detour : List ℕ) (r : Refusal)
    → forward_verdict g a ordinary detour ≡ Err r → (ordinary_row g a ordinary detour ≡ ordinary) × (detour_row g a ordinary detour ≡ detour)
unfolding ordinary_row detour_row
refused_rows g a ordinary detour r q = (rw q, rw q)

pub refused-said :
    (g : Net) (a : Ask) (ordinary detour : List ℕ) (r : Refusal)
    → forward_verdict g a ordinary detour ≡ Err r
    → (number_said (applies g a ordinary detour) ≡ number_of r.why) × (place_said (applies g a ordinary detour) ≡ r.place)
unfolding applies
refused-said g a ordinary detour r q = (rw q, rw q)

-- the number is 0 only where there is no refusal
pub zero-taken : (g : Net) (a : Ask) (ordinary detour : List ℕ) → number_said (applies g a ordinary detour) ≡ 0 → forward_verdict g a ordinary detour ≡ taken
zero-taken g a ordinary detour z = go (forward_verdict g a ordinary detour) refl
  where
    go : (v : Verdict) → forward_verdict g a ordinary detour ≡ v → forward_verdict g a ordinary detour ≡ taken
    go (Ok _) q = q
    go (Err r) q = absurd (omega (arith, numbered r.why, (refused-said g a ordinary detour r q).0, z))

pub handed-none :
    (g : Net) (a : Ask) (ordinary detour : List ℕ) (r : Refusal)
    → forward_verdict g a ordinary detour ≡ Err r → handed g a ordinary detour ≡ []
unfolding handed used_part applies
handed-none g a ordinary detour r q = rw q

module _ (g : Net) (a : Ask) (ordinary detour' : List ℕ) (ok : forward_verdict g a ordinary detour' ≡ taken) where
  abbrev t : Tree
  t = tree_of g

  sound_net : net_verdict g ≡ taken
  unfolding forward_verdict
  sound_net = head_taken _ _ ok

  fits : Fits g.nodes g.search.root a (length ordinary) (length detour')
  unfolding forward_verdict
  fits = ask_fits _ _ a _ _ (head_taken _ _ (rest-taken _ _ ok))

  unstranded : stranded g a ≡ false
  unfolding forward_verdict
  unstranded = if_taken_lem _ NoSwap a.failed (head_taken _ _ (rest-taken _ _ (rest-taken _ _ ok)))

  start : Node g a.start
  start = record { is_taken = sound_net; low = fits.start-low }

  failed : Node g a.failed
  failed = record { is_taken = sound_net; low = fits.failed_low }

  away : a.failed ≡ t.root → ⊥
  unfolding tree_of
  away = fits.below

  off : eqb a.failed t.root ≡ false
  off = ne_eqb a.failed t.root away

  -- the failed node of a start that is cut off has a swap link
  pub has_swap : cut_off g a ≡ true → (entry g a.failed).state ≡ swap_state
  unfolding stranded
  has_swap c = eqb-true (entry g a.failed).state swap_state (not-false (eqb (entry g a.failed).state swap_state) (rw c at unstranded))

  module _ (c : cut_off g a ≡ true) where
    it : Around g a.failed a.start (lower_end g a) (upper_end g a)
    it = cut_around g a start failed c away (has_swap c)

    crossed : crosses t a.failed (swap_link g a) (g.link (swap_link g a)) ≡ true
    crossed = crossing g a start failed c away (has_swap c)

    is-detour : listed g a ≡ around t a.failed (lower_end g a) (upper_end g a) a.start
    is-detour = detour-listed g a start failed c away (has_swap c)

    -- z is the end of the swap link that its mark names in the table
    pub lower-marked : lower_end g a ≡ end_by (swap_by (entry g a.failed) a.measure).lower (g.link (swap_link g a))
    unfolding lower_end swap_link
    lower-marked = sym (entry-below g a.failed a.measure (has_swap c)).is_z

    -- and z' is its other end
    pub upper_marked : upper_end g a ≡ other_by (swap_by (entry g a.failed) a.measure).lower (g.link (swap_link g a))
    unfolding upper_end swap_link
    upper_marked = sym (entry-below g a.failed a.measure (has_swap c)).is_other

    -- the failed node stands in the list once
    pub failed_once :
        (before : List ℕ) × (after : List ℕ) × (listed g a ≡ before ++ (a.failed ∷ after))
        × (has a.failed before ≡ false) × (has a.failed after ≡ false)
    unfolding around under
    failed_once =
        let x = a.failed in
        let up = up_to x (route t a.start) in
        let down = up_to x (route t (lower_end g a)) in (
          up,
          reverse down ++ route t (upper_end g a),
          is-detour,
          up_to-out x (route t a.start),
          has-append x (reverse down) (route t (upper_end g a)) ∙ rw (has-reverse x down, up_to-out x (route t (lower_end g a)), it.out),
        )

    -- the swap link is used once, and every other step is over a parent link
    pub swap_once :
        (steps g a
        ≡ steps_up t a.failed a.start ++
        (reverse (steps_up t a.failed (lower_end g a)) ++ (swap_link g a ∷ steps_up t t.root (upper_end g a))))
        × (has (swap_link g a) (steps_up t a.failed a.start) ≡ false)
        × (has (swap_link g a) (reverse (steps_up t a.failed (lower_end g a))) ≡ false)
        × (has (swap_link g a) (steps_up t t.root (upper_end g a)) ≡ false)
    unfolding steps steps_around
    swap_once = (
      rw c,
      crossing_unused g it.start a.failed (swap_link g a) crossed,
      has-reverse (swap_link g a) (steps_up t a.failed (lower_end g a)) ∙ crossing_unused g it.down a.failed (swap_link g a) crossed,
      crossing_unused g (to_top g it.rest) a.failed (swap_link g a) crossed,
    )

    around_unused : has (t.link a.failed) (steps_around t a.failed (swap_link g a) (lower_end g a) (upper_end g a) a.start) ≡ false
    unfolding steps_around has under
    around_unused =
        let x = a.failed in
        let f = t.link x in
        let up = steps_up t x a.start in
        let down = reverse (steps_up t x (lower_end g a)) in
        let rest = swap_link g a ∷ steps_up t t.root (upper_end g a) in
        has-append f up (down ++ rest)
        ∙ ap₂ ◌||◌ (steps_avoid g it.start failed off (up_to-out x (route t a.start)))
        (has-append f down rest
        ∙ ap₂ ◌||◌
        (has-reverse f (steps_up t x (lower_end g a)) ∙ steps_avoid g it.down failed off (up_to-out x (route t (lower_end g a))))
        (ap₂ ◌||◌ (crossing_other t x (swap_link g a) (g.link (swap_link g a)) crossed)
        (steps_avoid g (to_top g it.rest) failed off (up_to_less x t.root (route t (upper_end g a)) it.out))))

    -- a detour has at most twice the nodes less two
    pub detour-few : length (listed g a) + 2 ≤ 2 * g.nodes
    detour-few = omega (arith, ap length is-detour, around-few-nodes g it, size_is g)

    -- how long it is: N(start), and twice the way from the failed node to where the routes of the start and of z first meet
    pub detour-length :
        length_of g (steps g a)
        ≡ new_dist t a.failed (g.link (swap_link g a)) a.start + 2 * apart t a.failed (meet t a.start (lower_end g a))
    unfolding steps new_dist apart lower_end upper_end
    detour-length =
        let x = a.failed in
        let u = a.start in
        let z = lower_end g a in
        let m = meet t u z in
        let hu = homed g start in
        let hz = homed g it.down.node in
        let hr = homed g (top g start) in
        let mx = meet-under t u z x hu hz it.start.on it.down.on in
        rw c
        (omega (
          arith,
          around-steps g (swap_link g a) it (to_top g it.rest),
          dist-cut t u x hu it.start.on,
          dist-cut t z x hz it.down.on,
          dist-cut t u m hu (meet_one t u z hu hz),
          dist-cut t z m hz (meet-two t u z hu hz),
          apart_below t x m (home-meet t u z hu hz) mx,
          dist-cut t (upper_end g a) t.root (homed g it.rest) (to_top g it.rest).on,
          dist-root t t.root hr (eq-eqb t.root t.root refl) (rise-flat g t.root (eq-eqb t.root t.root refl)),
        ))

  -- an ordinary route is as long as d says
  pub ordinary_length : cut_off g a ≡ false → length_of g (steps g a) ≡ dist t a.start
  unfolding steps
  ordinary_length c =
      rw c
      (omega (
        arith,
        steps-long g t.root a.start (to_top g start),
        dist-cut t a.start t.root (homed g start) (to_top g start).on,
        dist-root t t.root (homed g (top g start)) (eq-eqb t.root t.root refl) (rise-flat g t.root (eq-eqb t.root t.root refl)),
      ))

  -- the list leads from the start to the root, each node joined to the next by the link of its step, which is in service
  pub listed_walk : Walk g a.start t.root (listed g a) (steps g a)
  unfolding listed steps detour lower_end upper_end
  listed_walk = go (cut_off g a) refl
    where
      go : (b : Bool) → cut_off g a ≡ b → Walk g a.start t.root (listed g a) (steps g a)
      go true c = rw c (around_walk g (it c) (cross-step g a.failed (swap_link g a) (stands g a start failed c away (has_swap c)).low (crossed c)))
      go false c = rw c (route_walk g start)

  -- and no step is over the failed tree link
  pub failed_unused : has (t.link a.failed) (steps g a) ≡ false
  unfolding steps cut_off under
  failed_unused = go (cut_off g a) refl
    where
      go : (b : Bool) → cut_off g a ≡ b → has (t.link a.failed) (steps g a) ≡ false
      go true c = rw c (around_unused c)
      go false c =
          rw c (steps_avoid g (to_top g start) failed off (up_to_less a.failed t.root (route t a.start) c))

  -- no list is longer than its row must be
  pub listed-few : length (listed g a) ≤ route_room
  listed-few = go (cut_off g a) refl
    where
      go : (b : Bool) → cut_off g a ≡ b → length (listed g a) ≤ route_room
      go true c = omega (arith, ap length (is-detour c), around-fits g (it c))
      go false c = omega (arith, ap length (route-listed g a start failed c), route-fits g start)

  -- the part that is handed back is the list
  pub handed-listed : handed g a ordinary detour' ≡ listed g a
  unfolding handed used_part applies way ordinary_row detour_row row_of
  handed-listed = go (cut_off g a) refl
    where
      go : (b : Bool) → cut_off g a ≡ b → handed g a ordinary detour' ≡ listed g a
      go true c = rw (ok, c) (take-append_seam (listed g a) (drop (length (listed g a)) detour'))
      go false c = rw (ok, c) (take-append_seam (listed g a) (drop (length (listed g a)) ordinary))

  -- it is never empty
  pub handed_some : handed g a ordinary detour' ≡ [] → ⊥
  handed_some e =
      let z = walk_some g listed_walk in
      let none : length (listed g a) ≡ 0 = ap length (sym handed-listed ∙ e) in
      omega (arith, none, ap length z.1)

  -- every number of it is a node
  pub listed-nodes : (y : ℕ) → has y (listed g a) ≡ true → y < g.nodes
  listed-nodes y h =
      let s = fine g start in
      walk_nodes g (λ e l. (first_in g s e l, second_in g s e l)) (top g start).low listed_walk y h

  -- every step is over a parent link, or over the swap link of a start that is cut off
  pub steps_are : (e : ℕ) → has e (steps g a) ≡ true → (is_parent g.parent g.nodes e || (cut_off g a && eqb (swap_link g a) e)) ≡ true
  unfolding steps steps_around has
  steps_are e = go (cut_off g a) refl
    where
      go : (b : Bool) → cut_off g a ≡ b → has e (steps g a) ≡ true → (is_parent g.parent g.nodes e || (cut_off g a && eqb (swap_link g a) e)) ≡ true
      go false c h = rw (steps-parents g (to_top g start) e (rw c at h))
      go true c h =
          let up = steps_up t a.failed a.start in
          let down = steps_up t a.failed (lower_end g a) in
          let rest = steps_up t t.root (upper_end g a) in
          either (has e up) (has e (reverse down ++ (swap_link g a ∷ rest))) (sym (has-append e up (reverse down ++ (swap_link g a ∷ rest))) ∙ (rw c at h))
          (λ p. rw (steps-parents g (it c).start e p))
          (λ n p.
          either (has e (reverse down)) (has e (swap_link g a ∷ rest)) (sym (has-append e (reverse down) (swap_link g a ∷ rest)) ∙ p)
          (λ q. rw (steps-parents g (it c).down e (sym (has-reverse e down) ∙ q)))
          (λ m q.
          either (eqb (swap_link g a) e) (has e rest) q
          (λ i. rw (c, i) (or_right (is_parent g.parent g.nodes e) true refl))
          (λ i k. rw (steps-parents g (to_top g (it c).rest) e k))))

  -- the answer: which row applies, how many nodes the part has, and its length; no number and no place
  pub said-cut : cut_off g a ≡ true → applies g a ordinary detour' ≡ Ok (Detour (way g a))
  unfolding applies
  said-cut c = rw (ok, c)

  pub said-free : cut_off g a ≡ false → applies g a ordinary detour' ≡ Ok (Ordinary (way g a))
  unfolding applies
  said-free c = rw (ok, c)

  pub way-nodes : (way g a).nodes ≡ length (handed g a ordinary detour')
  unfolding way
  way-nodes = sym (ap length handed-listed)

  pub way-cut :
      cut_off g a ≡ true
      → (way g a).length
      ≡ new_dist t a.failed (g.link (swap_link g a)) a.start + 2 * apart t a.failed
      (meet t a.start (lower_end g a))
  unfolding way
  way-cut = detour-length

  pub way-free : cut_off g a ≡ false → (way g a).length ≡ dist t a.start
  unfolding way
  way-free = ordinary_length

  pub said-none : (number_said (applies g a ordinary detour') ≡ 0) × (place_said (applies g a ordinary detour') ≡ 0)
  unfolding applies
  said-none = go (cut_off g a) refl
    where
      go : (b : Bool) → cut_off g a ≡ b → (number_said (applies g a ordinary detour') ≡ 0) × (place_said (applies g a ordinary detour') ≡ 0)
      go true c = (rw (ok, c), rw (ok, c))
      go false c = (rw (ok, c), rw (ok, c))

  -- the rows: the one that applies holds the list and past it what it held, and is as long as it was; the other one is unchanged
  row_kept :
      (row : List ℕ)
      → route_room ≤ length row
      → (length (row_of (listed g a) row) ≡ length row)
      × (drop (length (listed g a)) (row_of (listed g a) row) ≡ drop (length (listed g a)) row)
  unfolding row_of
  row_kept row l = (
    length-append (listed g a) (drop (length (listed g a)) row)
        ∙ ap (λ (k : ℕ). length (listed g a) + k) (length-drop (length (listed g a)) row)
        ∙ omega (arith, l, listed-few),
    drop-append_seam (listed g a) (drop (length (listed g a)) row),
  )

  pub cut_rows :
      cut_off g a ≡ true
      → (ordinary_row g a ordinary detour' ≡ ordinary) × (length (detour_row g a ordinary detour') ≡ length detour')
      × (drop (length (listed g a)) (detour_row g a ordinary detour') ≡ drop (length (listed g a)) detour')
  unfolding ordinary_row detour_row
  cut_rows c = let z = row_kept detour' fits.detour-room in (rw (ok, c), rw (ok, c) z.0, rw (ok, c) z.1)

  pub free_rows :
      cut_off g a ≡ false
      → (detour_row g a ordinary detour' ≡ detour') × (length (ordinary_row g a ordinary detour') ≡ length ordinary)
      × (drop (length (listed g a)) (ordinary_row g a ordinary detour') ≡ drop (length (listed g a)) ordinary)
  unfolding ordinary_row detour_row
  free_rows c = let z = row_kept ordinary fits.ordinary_room in (rw (ok, c), rw (ok, c) z.0, rw (ok, c) z.1)
