-- No plan is faster than a closed table says.
use Rattle.std.proofs.Common.{◌≡◌, ◌≢◌, ◌∙◌, ℕ, zero, suc, ◌+◌, ◌-◌, ◌*◌, ◌^◌, ◌<◌, ◌≤◌, List, [], ◌∷◌, Option, Some, None, true, false, length, get_or, drop, nat_eq, nat_lt, refl, sym, ap, subst, inl, inr, arith, length-drop}
use Rattle.std.specs.Option.{IsSome}
use Rattle.std.specs.Prelude.{if◌then◌else◌}
use Rattle.std.proofs.lemmas.Bool.{cases_Bool}
use Rattle.std.proofs.lemmas.Bool.Decides.{nat_tests}
use Rattle.std.proofs.Math.Seq.{drop-cons}
use Rattle.ev_model.specs.Feasible.{IsFeasible}
use Rattle.ev_model.specs.Levels.{KeepsBatteryFrom, arriving_level, leaving_level, level_after}
use Rattle.ev_model.specs.Network.{Network, curve_at, energy, plug_time, process_time, scaled_limit, travel_time}
use Rattle.ev_model.specs.Plan.{AreStopsFrom, EndsAtDepot}
use Rattle.ev_model.specs.Route.{FollowsRoute, route_of}
use Rattle.ev_model.specs.Time.{charging_time, time_from, time_of}
use Rattle.ev_model.specs.declared.Stop.{Stop}
use Rattle.level_table.specs.Stations.{stations}
use Rattle.level_table.specs.Table.{IsClosed, IsTable, entry_at, rank_at}
use Rattle.level_table.specs.Moves.{CanDrive, CanMove, move_time, next_node, node_of, passed_after, place_after}
use Rattle.level_table.specs.Places.{IsHome, IsPlace, IsTrip, entry_count, index_of}
use Rattle.level_table.specs.Reach.{rank_of}
use Rattle.level_table.specs.declared.moves.Move.{Move}
use Rattle.level_table.specs.declared.moves.Move.TheVariants.{Charge, Drive, Unplug}
use Rattle.level_table.specs.declared.place.Place.{Place}
use Rattle.level_table.specs.declared.reach.Reach.{Reach}
use Rattle.level_table.proofs.ChargingTimes.{charging-adds, charging-nothing}
use Rattle.level_table.proofs.TableSizes.{few-steps, route-length}
use Rattle.level_table.proofs.Grid.{home-below, home-index, place-below, place-of_index}
use Rattle.level_table.proofs.StationNodes.{station-number}

-- the time that a cell holds; one without a way home counts as past the limit
abbrev pub entry_time : ℕ → Option Reach → ℕ
entry_time limit None = limit + 1
entry_time limit (Some r) = r.time

abbrev pub time_at : Network → List (Option Reach) → ℕ → ℕ
time_at g entries index = entry_time (scaled_limit g) (entry_at entries index)

abbrev entry_steps : Option Reach → ℕ
entry_steps None = 0
entry_steps (Some r) = r.steps

rank-parts : (limit : ℕ) (o : Option Reach) → rank_of limit o ≡ entry_time limit o * 2 ^ 32 + entry_steps o
rank-parts limit None = omega arith
rank-parts limit (Some r) = refl

steps-small : (g : Network) (route : List ℕ) (entries : List (Option Reach)) (index : ℕ) (o : Option Reach) → IsTrip g route → IsTable g route entries →
    entry_at entries index ≡ o → entry_steps o ≤ 80000000
steps-small g route entries index None trip table is = omega arith
steps-small g route entries index (Some r) trip table is = few-steps g route entries index r trip table is

-- what an order of ranks says of times
pub rank-times : (g : Network) (route : List ℕ) (entries : List (Option Reach)) (from to time : ℕ) → IsTrip g route → IsTable g route entries →
    rank_at g entries from ≤ time * 2 ^ 32 + 1 + rank_at g entries to → time_at g entries from ≤ time + time_at g entries to
rank-times g route entries from to time trip table le =
    let left = rank-parts (scaled_limit g) (entry_at entries from) in
    let right = rank-parts (scaled_limit g) (entry_at entries to) in
    let small = steps-small g route entries to (entry_at entries to) trip table refl in
    omega (arith, le, left, right, small)

-- and the other way round
pub rank-times_back : (g : Network) (route : List ℕ) (entries : List (Option Reach)) (from to time : ℕ) → IsTrip g route → IsTable g route entries →
    time * 2 ^ 32 + 1 + rank_at g entries to ≤ rank_at g entries from → time + time_at g entries to ≤ time_at g entries from
rank-times_back g route entries from to time trip table le =
    let left = rank-parts (scaled_limit g) (entry_at entries from) in
    let right = rank-parts (scaled_limit g) (entry_at entries to) in
    let small = steps-small g route entries from (entry_at entries from) trip table refl in
    omega (arith, le, left, right, small)

-- a slot other than 0 is a station's, which does not move the vehicle along its route
pub not_zero : (j : ℕ) → nat_eq (suc j) 0 ≡ false
not_zero j = grind (arith, nat_tests)

pub passed_after-station : (passed j : ℕ) → passed_after passed (suc j) ≡ passed
passed_after-station passed j = rw (not_zero j) refl

module _ (g : Network) (route : List ℕ) (entries : List (Option Reach)) (trip : IsTrip g route) (table : IsTable g route entries)
    (closed : IsClosed g route entries 0 (entry_count g route)) where
  -- a closed table makes no move longer than it is
  move_bound : (place : Place) (step : Move) → IsPlace g route place → CanMove g route step place →
      time_at g entries (index_of g place) ≤ move_time g route step place + time_at g entries (index_of g (place_after g route step place))
  move_bound place step is can =
      let same = place-of_index g route place is.slot is.level in
      let at : CanMove g route step place → rank_at g entries (index_of g place) ≤ move_time g route step place * 2 ^ 32 + 1 + rank_at g entries (index_of g (place_after g route step place)) =
      subst (λ (p : Place). CanMove g route step p → rank_at g entries (index_of g place) ≤ move_time g route step p * 2 ^ 32 + 1 + rank_at g entries (index_of g (place_after g route step p)))
      same (closed (index_of g place) (omega arith) (place-below g route place is) step) in
      rank-times g route entries (index_of g place) (index_of g (place_after g route step place)) (move_time g route step place) trip table (at can)

  abbrev place_at : ℕ → ℕ → ℕ → Place
  place_at passed slot level = record { passed = passed; slot = slot; level = level; plugged = false }

  abbrev plugged_at : ℕ → ℕ → ℕ → Place
  plugged_at passed slot level = record { passed = passed; slot = slot; level = level; plugged = true }

  abbrev time_here : ℕ → ℕ → ℕ → ℕ
  time_here passed slot level = time_at g entries (index_of g (place_at passed slot level))

  abbrev time_plugged : ℕ → ℕ → ℕ → ℕ
  time_plugged passed slot level = time_at g entries (index_of g (plugged_at passed slot level))

  -- charging one unit after another, and unplugging
  charge_bound : (more passed slot level node : ℕ) → IsPlace g route (plugged_at passed slot level) → node_of g route (plugged_at passed slot level) ≡ node →
      (0 < passed + slot) × IsSome (curve_at g node) → level + more ≤ g.capacity →
      time_plugged passed slot level ≤ charging_time 1 g.denominator (curve_at g node) level (level + more) + time_here passed slot (level + more)
  charge_bound zero passed slot level node is at can room =
      let same : level + 0 ≡ level = omega arith in
      let unplug = move_bound (plugged_at passed slot level) Unplug is refl in
      rw (same, charging-nothing g.denominator (curve_at g node) level) (omega (arith, unplug))
  charge_bound (suc more) passed slot level node is at can room =
      let curve : IsSome (curve_at g (node_of g route (plugged_at passed slot level))) = subst (λ (x : ℕ). IsSome (curve_at g x)) (sym at) can.1 in
      let unit = move_bound (plugged_at passed slot level) Charge is (can.0, omega arith, curve) in
      let first : time_plugged passed slot level ≤ g.denominator * 0 + charging_time 1 g.denominator (curve_at g node) level (level + 1) + time_plugged passed slot (level + 1) =
      subst (λ (x : ℕ). time_plugged passed slot level ≤ g.denominator * 0 + charging_time 1 g.denominator (curve_at g x) level (level + 1) + time_plugged passed slot (level + 1)) at unit in
      let next : IsPlace g route (plugged_at passed slot (level + 1)) = record { passed = is.passed; slot = is.slot; level = omega arith } in
      let rest = charge_bound more passed slot (level + 1) node next at can (omega arith) in
      let sums = charging-adds g node level (level + 1) (level + 1 + more) trip.network (omega arith) (omega arith) in
      let ends : level + suc more ≡ level + 1 + more = omega arith in
      rw ends (omega (arith, first, rest, sums))

  -- passing through, or plugging in and charging
  visit_bound : (added passed slot level node : ℕ) → IsPlace g route (place_at passed slot level) → node_of g route (place_at passed slot level) ≡ node →
      (0 < added → (0 < passed + slot) × IsSome (curve_at g node)) → level + added ≤ g.capacity →
      time_here passed slot level ≤ g.denominator * (if nat_lt 0 added then plug_time g node else 0)
      + charging_time 1 g.denominator (curve_at g node) level (level + added) + time_here passed slot (level + added)
  visit_bound zero passed slot level node is at may room =
      let same : level + 0 ≡ level = omega arith in
      rw same (omega arith)
  visit_bound (suc more) passed slot level node is at may room =
      let can = may (omega arith) in
      let curve : IsSome (curve_at g (node_of g route (place_at passed slot level))) = subst (λ (x : ℕ). IsSome (curve_at g x)) (sym at) can.1 in
      let unit = move_bound (place_at passed slot level) Charge is (can.0, omega arith, curve) in
      let first : time_here passed slot level ≤ g.denominator * plug_time g node + charging_time 1 g.denominator (curve_at g node) level (level + 1) + time_plugged passed slot (level + 1) =
      subst (λ (x : ℕ). time_here passed slot level ≤ g.denominator * plug_time g x + charging_time 1 g.denominator (curve_at g x) level (level + 1) + time_plugged passed slot (level + 1)) at unit in
      let next : IsPlace g route (plugged_at passed slot (level + 1)) = record { passed = is.passed; slot = is.slot; level = omega arith } in
      let rest = charge_bound more passed slot (level + 1) node next at can (omega arith) in
      let sums = charging-adds g node level (level + 1) (level + 1 + more) trip.network (omega arith) (omega arith) in
      let ends : level + suc more ≡ level + 1 + more = omega arith in
      let some : nat_lt 0 (suc more) ≡ true = grind (arith, nat_tests) in
      rw (ends, some) (omega (arith, first, rest, sums))

  -- a drive from one node to another
  drive_bound : (place : Place) (slot node next : ℕ) → IsPlace g route place → place.plugged ≡ false → slot ≤ length (stations g) →
      node_of g route place ≡ node → next_node g route place slot ≡ next → next ≢ node → 1 * energy g node next + 1 * g.reserve ≤ place.level →
      (passed_after place.passed slot ≡ length route - 1 → 1 * energy g node next + 1 * g.home_level ≤ place.level) →
      time_at g entries (index_of g place)
      ≤ 1 * (g.denominator * (travel_time g node next + process_time g next)) + time_here (passed_after place.passed slot) slot (place.level - 1 * energy g node next)
  drive_bound place slot node next is out few at to =
      let P : ℕ → ℕ → Type 0 = λ n x. x ≢ n → 1 * energy g n x + 1 * g.reserve ≤ place.level →
      (passed_after place.passed slot ≡ length route - 1 → 1 * energy g n x + 1 * g.home_level ≤ place.level) →
      time_at g entries (index_of g place) ≤ 1 * (g.denominator * (travel_time g n x + process_time g x)) + time_here (passed_after place.passed slot) slot (place.level - 1 * energy g n x) in
      let n = node_of g route place in
      let x = next_node g route place slot in
      let base : P n x = λ other enough home.
      let can : CanDrive g route slot place = record {
        known = few;
        other = other;
        within = omega (arith, enough);
        enough = (omega (arith, enough), λ end. let wanted = home end in omega (arith, wanted));
      } in
      let bound = move_bound place (Drive slot) is (out, can) in
      let level : place.level - 1 * energy g n x ≡ place.level - energy g n x = omega arith in
      rw level (omega (arith, bound)) in
      subst (λ (y : ℕ). P node y) to (subst (λ (m : ℕ). P m x) at base)

  last_is_own : (s : Stop) (ss : List Stop) → EndsAtDepot (s ∷ ss) → 1 ≤ length (route_of (s ∷ ss))
  last_is_own s [] ends =
      let own : s.via ≡ false = ap (λ (x : Stop). x.via) ends in
      rw own (omega arith)
  last_is_own s (t ∷ ss) ends = elim (cases_Bool s.via) [
    | inl via ↦ rw via (last_is_own t ss ends)
    | inr own ↦ let rest = last_is_own t ss ends in rw own (omega (arith, rest))
  ]

  -- one stop and what follows it
  stop_bound : (s : Stop) (ss : List Stop) (place : Place) (slot node : ℕ) → IsPlace g route place → place.plugged ≡ false → slot ≤ length (stations g) →
      node_of g route place ≡ node → next_node g route place slot ≡ s.node → AreStopsFrom g node (s ∷ ss) → KeepsBatteryFrom g 1 node place.level (s ∷ ss) →
      passed_after place.passed slot < length route - 1 → 0 < passed_after place.passed slot + slot →
      time_here (passed_after place.passed slot) slot (leaving_level g 1 node place.level s) ≤ time_from g 1 s.node (leaving_level g 1 node place.level s) ss →
      time_at g entries (index_of g place) ≤ time_from g 1 node place.level (s ∷ ss)
  stop_bound s ss place slot node is out few at to next battery passed later rest =
      let drive = drive_bound place slot node s.node is out few at to next.0 battery.0 (λ end. absurd (omega (arith, end, passed))) in
      let here : IsPlace g route (place_at (passed_after place.passed slot) slot (arriving_level g 1 node place.level s)) =
      record { passed = passed; slot = few; level = omega (arith, is.level) } in
      let visit = visit_bound s.added (passed_after place.passed slot) slot (arriving_level g 1 node place.level s) s.node here to
      (λ some. (later, next.1.station (inr some))) (omega (arith, battery.1)) in
      omega (arith, drive, visit, rest)

  after_stop : (s : Stop) (place : Place) (slot node : ℕ) → slot ≤ length (stations g) → leaving_level g 1 node place.level s ≤ 1 * g.capacity →
      passed_after place.passed slot < length route - 1 → IsPlace g route (place_at (passed_after place.passed slot) slot (leaving_level g 1 node place.level s))
  after_stop s place slot node few room passed = record { passed = passed; slot = few; level = omega (arith, room) }

  -- a stop of the route is at its next node
  own_head : (node passed : ℕ) (rest : List ℕ) → passed + 1 < length route → node ∷ rest ≡ drop (passed + 1) route →
      (get_or route (passed + 1) 0 ≡ node) × (rest ≡ drop (passed + 1 + 1) route)
  own_head node passed rest within follows =
      let parts : drop (passed + 1) route ≡ get_or route (passed + 1) 0 ∷ drop (suc (passed + 1)) route = drop-cons route (passed + 1) 0 within in
      let both : node ∷ rest ≡ get_or route (passed + 1) 0 ∷ drop (suc (passed + 1)) route = follows ∙ parts in
      let later : suc (passed + 1) ≡ passed + 1 + 1 = omega arith in
      let rest_is : rest ≡ drop (suc (passed + 1)) route = cc in
      (cc, rest_is ∙ ap (λ n. drop n route) later)

  -- at the end of the route nothing is left
  home_time : (passed level : ℕ) → passed ≡ length route - 1 → level ≤ g.capacity → g.home_level ≤ level → time_here passed 0 level ≡ 0
  home_time passed level end low enough =
      let home : IsHome g route (place_at passed 0 level) = record { passed = end; slot = refl; level = low; enough = enough } in
      let index_is = home-index g route (place_at passed 0 level) home in
      let within = home-below g route (place_at passed 0 level) home in
      ap (entry_time (scaled_limit g)) (table.home (index_of g (place_at passed 0 level)) (omega (arith, index_is)) (omega (arith, within, table.count)))

  station_node : (place : Place) (j node : ℕ) → get_or (stations g) j 0 ≡ node → next_node g route place (suc j) ≡ node
  station_node place j node is =
      let same : suc j - 1 ≡ j = omega arith in
      rw (not_zero j) (ap (λ x. get_or (stations g) x 0) same ∙ is)

  -- the rest of a plan takes no less time than the table says
  way_home : (stops : List Stop) (place : Place) (node : ℕ) → IsPlace g route place → place.plugged ≡ false → node_of g route place ≡ node → AreStopsFrom g node stops → EndsAtDepot stops →
      KeepsBatteryFrom g 1 node place.level stops → 1 * g.home_level ≤ level_after g 1 node place.level stops → route_of stops ≡ drop (place.passed + 1) route → time_at g entries (index_of g place) ≤ time_from g 1 node place.level stops
  way_home [] place node is out at next ends battery wanted follows = absurd ends
  way_home (s ∷ []) place node is out at next ends battery wanted follows =
      let own : s.via ≡ false = ap (λ (x : Stop). x.via) ends in
      let one : s.node ∷ [] ≡ drop (place.passed + 1) route = rw own at follows in
      let head = own_head s.node place.passed [] (omega (arith, is.passed)) one in
      let count = ap length one ∙ length-drop (place.passed + 1) route in
      let none : s.added ≡ 0 = ap (λ (x : Stop). x.added) ends in
      let drive = drive_bound place 0 node s.node is out (omega arith) at head.0 next.0 battery.0 (λ end. omega (arith, wanted, none, battery.0)) in
      let home = home_time (place.passed + 1) (place.level - 1 * energy g node s.node) (omega (arith, count)) (omega (arith, is.level)) (omega (arith, wanted, none)) in
      omega (arith, drive, home)
  way_home (s ∷ t ∷ ss) place node is out at next ends battery wanted follows = elim (cases_Bool s.via) [
    | inl via ↦
        let found = station-number g s.node next.1.known (next.1.station (inl via)) in
        let slot = suc found.0 in
        let few : slot ≤ length (stations g) = omega (arith, found.1) in
        let to = station_node place found.0 s.node found.2 in
        let passed = passed_after place.passed slot in
        let same : passed ≡ place.passed = passed_after-station place.passed found.0 in
        let below : passed < length route - 1 = omega (arith, same, is.passed) in
        let follows_on : route_of (t ∷ ss) ≡ drop (passed + 1) route = (rw via at follows) ∙ ap (λ n. drop (n + 1) route) (sym same) in
        let rest = way_home (t ∷ ss) (place_at passed slot (leaving_level g 1 node place.level s)) s.node
        (after_stop s place slot node few battery.1 below) refl to next.2 ends battery.2 wanted follows_on in
        stop_bound s (t ∷ ss) place slot node is out few at to next battery below (omega arith) rest
    | inr own ↦
        let head = own_head s.node place.passed (route_of (t ∷ ss)) (omega (arith, is.passed)) (rw own at follows) in
        let some = last_is_own t ss ends in
        let count = ap length head.1 ∙ length-drop (place.passed + 1 + 1) route in
        let passed : place.passed + 1 < length route - 1 = omega (arith, some, count) in
        let rest = way_home (t ∷ ss) (place_at (place.passed + 1) 0 (leaving_level g 1 node place.level s)) s.node
        (after_stop s place 0 node (omega arith) battery.1 passed) refl head.0 next.2 ends battery.2 wanted head.1 in
        stop_bound s (t ∷ ss) place 0 node is out (omega arith) at head.0 next battery passed (omega arith) rest
  ]

  first_node : get_or route 0 0 ≡ 0
  first_node = ap (λ xs. get_or xs 0 0) trip.is_route.1.ends

  from_depot : (stops : List Stop) (start : ℕ) → start ≤ g.capacity → IsFeasible g 1 start (record { node = 0; added = 0; via = false } ∷ stops) →
      FollowsRoute route (record { node = 0; added = 0; via = false } ∷ stops) → time_here 0 0 start ≤ time_from g 1 0 (1 * start) stops
  from_depot stops start low is follows =
      let two = route-length g route trip.is_route in
      let one : 1 * start ≡ start = omega arith in
      let parts : drop 0 route ≡ get_or route 0 0 ∷ drop 1 route = drop-cons route 0 0 (omega (arith, two)) in
      let rest : route_of stops ≡ drop 1 route = cc in
      let place : IsPlace g route (place_at 0 0 (1 * start)) = record { passed = omega (arith, two); slot = omega arith; level = omega arith } in
      subst (λ (level : ℕ). time_here 0 0 level ≤ time_from g 1 0 (1 * start) stops) one
      (way_home stops (place_at 0 0 (1 * start)) 0 place refl first_node is.plan.3 is.plan.2 is.battery.0 is.battery.1 rest)

  -- no feasible whole plan of the route is faster than the cell of its start says
  pub start_bound : (others : List Stop) (start : ℕ) → start ≤ g.capacity → IsFeasible g 1 start others → FollowsRoute route others →
      time_here 0 0 start ≤ time_of g 1 start others
  start_bound [] start low is follows = absurd is.plan
  start_bound (first ∷ stops) start low is follows =
      let P : Stop → Type 0 = λ s. IsFeasible g 1 start (s ∷ stops) → FollowsRoute route (s ∷ stops) → time_here 0 0 start ≤ time_from g 1 s.node (1 * start) stops in
      let depot : Stop = record { node = 0; added = 0; via = false } in
      let same : depot ≡ first = sym is.plan.1 in
      subst P same (from_depot stops start low) is follows
