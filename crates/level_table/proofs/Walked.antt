-- A walk of best moves: whatever the vehicle may still do makes a plan with what it has done.
use Rattle.std.proofs.Common.{◌≡◌, ◌∙◌, ◌⊎◌, ℕ, zero, suc, ◌+◌, ◌-◌, ◌*◌, ◌^◌, ◌<◌, ◌≤◌, List, [], ◌∷◌, ◌++◌, Option, Some, None, Bool, true, false, length, get_or, drop, refl, sym, ap, subst, inl, inr, arith, append_assoc, length-append, length-drop}
use Rattle.std.specs.Option.{IsSome, IfSome}
use Rattle.std.specs.Prelude.{nat_lt, if◌then◌else◌}
use Rattle.std.proofs.lemmas.Bool.Decides.{nat_tests}
use Rattle.std.proofs.lemmas.List.{get_or_push}
use Rattle.std.proofs.Math.Seq.{drop-cons}
use Rattle.std.proofs.Math.ListN.{drop_of_length-le}
use Rattle.std.proofs.lemmas.List.Elements.{All-get_or}
use Rattle.ev_model.specs.Feasible.{IsFeasible}
use Rattle.ev_model.specs.Levels.{KeepsBattery, KeepsBatteryFrom, level_after}
use Rattle.ev_model.specs.Network.{Network, curve_at, energy, node_count, plug_time, process_time, scaled_limit, travel_time}
use Rattle.ev_model.specs.Plan.{AreStopsFrom, EndsAtDepot, IsPlanIn}
use Rattle.ev_model.specs.Route.{FollowsRoute, route_of}
use Rattle.ev_model.specs.Time.{charging_time, time_from, time_of}
use Rattle.ev_model.specs.declared.Stop.{Stop}
use Rattle.level_table.specs.Stations.{stations}
use Rattle.level_table.specs.Table.{IsNoFarther, IsOffer, IsSupported, IsTable, entry_at, offer_rank, rank_at}
use Rattle.level_table.specs.Moves.{CanMove, move_time, next_node, node_of, passed_after, place_after, plug_before}
use Rattle.level_table.specs.Places.{IsHome, IsPlace, IsTrip, index_of, node_at}
use Rattle.level_table.specs.Reach.{rank, rank_of}
use Rattle.level_table.specs.Walk.{start_place, stop_after, stops_after}
use Rattle.level_table.specs.declared.moves.Move.{Move}
use Rattle.level_table.specs.declared.moves.Move.TheVariants.{Charge, Drive, Unplug}
use Rattle.level_table.specs.declared.offers.Offer.{Offer}
use Rattle.level_table.specs.declared.place.Place.{Place}
use Rattle.level_table.specs.declared.reach.Reach.{Reach}
use Rattle.level_table.proofs.ChargingTimes.{charging-adds, charging-nothing}
use Rattle.level_table.proofs.TableSizes.{few-steps, route-length}
use Rattle.level_table.proofs.Grid.{place-below, place-of_index}
use Rattle.level_table.proofs.StationNodes.{station-curve, station-known}
use Rattle.level_table.proofs.WayHome.{entry_time, not_zero, passed_after-station, rank-times_back, time_at}

-- the stop with more charged at it
abbrev pub charged : Stop → ℕ → Stop
charged stop more = record stop { added = stop.added + more }

-- what the vehicle may still do: charge more at the stop, and go on over the rest
pub record IsRest (g : Network) (route : List ℕ) (place : Place) (stop : Stop) (more : ℕ) (rest : List Stop) : Type 0 where
  pub charge : 0 < more → (0 < place.passed + place.slot) × IsSome (curve_at g stop.node)
  pub room : place.level + more ≤ g.capacity
  pub ends : EndsAtDepot (charged stop more ∷ rest)
  pub next : AreStopsFrom g stop.node rest
  pub battery : KeepsBatteryFrom g 1 stop.node (place.level + more) rest
  pub home : 1 * g.home_level ≤ level_after g 1 stop.node (place.level + more) rest
  pub follows : route_of rest ≡ drop (place.passed + 1) route

-- a plan of the route that keeps the battery
pub record IsWhole (g : Network) (route : List ℕ) (start : ℕ) (stops : List Stop) : Type 0 where
  pub plan : IsPlanIn g 1 stops
  pub battery : KeepsBattery g 1 start stops
  pub follows : FollowsRoute route stops

abbrev pub time_to_go : Network → List (Option Reach) → Place → ℕ
time_to_go g entries place = time_at g entries (index_of g place)

-- the time to plug in before more is charged
abbrev pub plug_more : Network → Place → Stop → ℕ → ℕ
plug_more g place stop more = if place.plugged then 0 else (if nat_lt 0 more then plug_time g stop.node else 0)

-- the plan with a rest, and its time: no more than the start's entry says beyond what the rest takes longer than the place's entry says
pub record IsCompleted (g : Network) (route : List ℕ) (start : ℕ) (entries : List (Option Reach)) (place : Place) (stop : Stop) (plan : List Stop) (more : ℕ) (rest : List Stop) : Type 0 where
  pub whole : IsWhole g route start plan
  pub time : time_of g 1 start plan + time_to_go g entries place
      ≤ time_to_go g entries (start_place start) + g.denominator * plug_more g place stop more
      + charging_time 1 g.denominator (curve_at g stop.node) place.level (place.level + more)
      + time_from g 1 stop.node (place.level + more) rest

-- where the vehicle is after a walk of best moves
pub record IsWalked (g : Network) (route : List ℕ) (start : ℕ) (entries : List (Option Reach)) (place : Place) (stop : Stop) (stops : List Stop) : Type 0 where
  pub on_route : IsPlace g route place ⊎ IsHome g route place
  pub held : (r : Reach) × (entry_at entries (index_of g place) ≡ Some r)
  pub node : stop.node ≡ node_of g route place
  pub via : stop.via ≡ nat_lt 0 place.slot
  pub added : stop.added ≤ place.level
  pub fresh : place.passed ≡ length route - 1 → stop.added ≡ 0
  pub completes : (more : ℕ) (rest : List Stop) → IsRest g route place stop more rest
      → IsCompleted g route start entries place stop (stops ++ charged stop more ∷ rest) more rest

-- the best move goes on to a nearer place
pub best-move : (g : Network) (route : List ℕ) (entries : List (Option Reach)) (place : Place) (r : Reach) (o : Option Offer) → IsTrip g route → IsTable g route entries →
    IsPlace g route place → entry_at entries (index_of g place) ≡ Some r → ((step : Move) → IsNoFarther g route entries place step (offer_rank (scaled_limit g) o)) →
    (offer : Offer) × (o ≡ Some offer) × (rank offer.reach ≤ rank r)
best-move g route entries place r o trip table is holds least =
    let same = place-of_index g route place is.slot is.level in
    let supported : IsSupported g route entries place (rank r) =
    subst (λ (p : Place). IsSupported g route entries p (rank r)) same (table.supported (index_of g place) r (place-below g route place is) holds) in
    let le : offer_rank (scaled_limit g) o ≤ rank r = omega (arith, least supported.step supported.can, supported.enough) in
    found o le
  where
    found : (o : Option Offer) → offer_rank (scaled_limit g) o ≤ rank r → (offer : Offer) × (o ≡ Some offer) × (rank offer.reach ≤ rank r)
    found None le = absurd (omega (arith, le, table.in_time (index_of g place) r holds, few-steps g route entries (index_of g place) r trip table holds))
    found (Some offer) le = (offer, refl, le)

-- an offer's move takes no longer than it brings the vehicle nearer, and leads to a lesser rank
pub offer-rank : (g : Network) (route : List ℕ) (entries : List (Option Reach)) (place : Place) (offer : Offer) → IsOffer g route entries place offer →
    move_time g route offer.step place * 2 ^ 32 + 1 + rank_at g entries (index_of g offer.to) ≡ rank offer.reach
offer-rank g route entries place offer is = rw is.rest.1 (omega (arith, is.rest.2, is.rest.3))

charged-nothing : (stop : Stop) → charged stop 0 ≡ stop
charged-nothing stop = let same : stop.added + 0 ≡ stop.added = omega arith in ap (λ a. record stop { added = a }) same

charged-more : (stop : Stop) (more : ℕ) → charged stop (1 + more) ≡ charged (record stop { added = stop.added + 1 }) more
charged-more stop more = let same : stop.added + (1 + more) ≡ stop.added + 1 + more = omega arith in ap (λ a. record stop { added = a }) same

-- a known node of a route or of the stations
node-known : (g : Network) (route : List ℕ) (passed slot : ℕ) → IsTrip g route → passed < length route → slot ≤ length (stations g) →
    node_at g route passed slot < node_count g
node-known g route passed zero trip within few =
    All-get_or (λ node. node < node_count g) route passed 0 within trip.is_route.1.known
node-known g route passed (suc j) trip within few =
    let same : suc j - 1 ≡ j = omega arith in
    rw (not_zero j) (subst (λ (x : ℕ). get_or (stations g) x 0 < node_count g) (sym same) (station-known g j (omega arith)))

inserted-curve : (g : Network) (route : List ℕ) (passed slot : ℕ) → slot ≤ length (stations g) → nat_lt 0 slot ≡ true → IsSome (curve_at g (node_at g route passed slot))
inserted-curve g route passed zero few via = let own : nat_lt 0 0 ≡ false = refl in cc
inserted-curve g route passed (suc j) few via =
    let same : suc j - 1 ≡ j = omega arith in
    rw (not_zero j) (subst (λ (x : ℕ). IsSome (curve_at g (get_or (stations g) x 0))) (sym same) (station-curve g j (omega arith)))

module _ (g : Network) (route : List ℕ) (start : ℕ) (entries : List (Option Reach)) (trip : IsTrip g route) (table : IsTable g route entries) where
  -- charging one unit is a part of what the vehicle may do
  charge_rest : (place : Place) (stop : Stop) (more : ℕ) (rest : List Stop) → CanMove g route Charge place → stop.node ≡ node_of g route place →
      IsRest g route (place_after g route Charge place) (record stop { added = stop.added + 1 }) more rest → IsRest g route place stop (1 + more) rest
  charge_rest place stop more rest can at is = record {
    charge = λ some. (can.0, subst (λ (x : ℕ). IsSome (curve_at g x)) (sym at) can.2);
    room = omega (arith, is.room);
    ends = subst (λ (s : Stop). EndsAtDepot (s ∷ rest)) (sym (charged-more stop more)) is.ends;
    next = is.next;
    battery = let same : place.level + 1 + more ≡ place.level + (1 + more) = omega arith in
        subst (λ (level : ℕ). KeepsBatteryFrom g 1 stop.node level rest) same is.battery;
    home = let same : place.level + 1 + more ≡ place.level + (1 + more) = omega arith in
        subst (λ (level : ℕ). 1 * g.home_level ≤ level_after g 1 stop.node level rest) same is.home;
    follows = is.follows;
  }

  plug_first : (plugged : Bool) (p q more : ℕ) → p ≡ q → (if plugged then 0 else (if nat_lt 0 (1 + more) then p else 0)) ≡ (if plugged then 0 else q)
  plug_first true p q more same = refl
  plug_first false p q more same = let some : nat_lt 0 (1 + more) ≡ true = grind (arith, nat_tests) in rw some same

  plug_nothing : (plugged : Bool) (p : ℕ) → (if plugged then 0 else (if nat_lt 0 0 then p else 0)) ≡ 0
  plug_nothing true p = refl
  plug_nothing false p = refl

  plug_paid : (plugged : Bool) (p : ℕ) → plugged ≡ true → (if plugged then 0 else p) ≡ 0
  plug_paid plugged p is = rw is refl

  charge_completes : (place : Place) (stop : Stop) (stops : List Stop) → CanMove g route Charge place → IsWalked g route start entries place stop stops →
      move_time g route Charge place + time_to_go g entries (place_after g route Charge place) ≤ time_to_go g entries place → (more : ℕ) (rest : List Stop) →
      IsRest g route (place_after g route Charge place) (record stop { added = stop.added + 1 }) more rest →
      IsCompleted g route start entries (place_after g route Charge place) (record stop { added = stop.added + 1 })
      (stops ++ charged (record stop { added = stop.added + 1 }) more ∷ rest) more rest
  charge_completes place stop stops can walked nearer more rest is =
      let done = walked.completes (1 + more) rest (charge_rest place stop more rest can walked.node is) in
      let plans : stops ++ charged stop (1 + more) ∷ rest ≡ stops ++ charged (record stop { added = stop.added + 1 }) more ∷ rest =
      ap (λ (s : Stop). stops ++ s ∷ rest) (charged-more stop more) in
      let levels : place.level + (1 + more) ≡ place.level + 1 + more = omega arith in
      let time : time_of g 1 start (stops ++ charged stop (1 + more) ∷ rest) + time_to_go g entries place
      ≤ time_to_go g entries (start_place start) + g.denominator * plug_before g route place
      + charging_time 1 g.denominator (curve_at g stop.node) place.level (place.level + 1 + more)
      + time_from g 1 stop.node (place.level + 1 + more) rest =
      subst (λ (plug : ℕ). time_of g 1 start (stops ++ charged stop (1 + more) ∷ rest) + time_to_go g entries place
      ≤ time_to_go g entries (start_place start) + g.denominator * plug
      + charging_time 1 g.denominator (curve_at g stop.node) place.level (place.level + 1 + more) + time_from g 1 stop.node (place.level + 1 + more) rest)
      (plug_first place.plugged (plug_time g stop.node) (plug_time g (node_of g route place)) more (ap (plug_time g) walked.node))
      (subst (λ (level : ℕ). time_of g 1 start (stops ++ charged stop (1 + more) ∷ rest) + time_to_go g entries place
      ≤ time_to_go g entries (start_place start) + g.denominator * plug_more g place stop (1 + more)
      + charging_time 1 g.denominator (curve_at g stop.node) place.level level + time_from g 1 stop.node level rest) levels done.time) in
      let sums = charging-adds g stop.node place.level (place.level + 1) (place.level + 1 + more) trip.network (omega arith) (omega arith) in
      let unit : charging_time 1 g.denominator (curve_at g stop.node) place.level (place.level + 1)
      ≡ charging_time 1 g.denominator (curve_at g (node_of g route place)) place.level (place.level + 1) =
      ap (λ x. charging_time 1 g.denominator (curve_at g x) place.level (place.level + 1)) walked.node in
      record {
        whole = subst (IsWhole g route start) plans done.whole;
        time = rw (← plans) (omega (arith, time, sums, unit, nearer));
      }

  -- unplugging leaves all that the vehicle may do
  unplug_completes : (place : Place) (stop : Stop) (stops : List Stop) → place.plugged ≡ true → IsWalked g route start entries place stop stops →
      move_time g route Unplug place + time_to_go g entries (place_after g route Unplug place) ≤ time_to_go g entries place → (more : ℕ) (rest : List Stop) →
      IsRest g route (place_after g route Unplug place) stop more rest →
      IsCompleted g route start entries (place_after g route Unplug place) stop (stops ++ charged stop more ∷ rest) more rest
  unplug_completes place stop stops plugged walked nearer more rest is =
      let done = walked.completes more rest (record {
        charge = is.charge;
        room = is.room;
        ends = is.ends;
        next = is.next;
        battery = is.battery;
        home = is.home;
        follows = is.follows;
      }) in
      let paid : g.denominator * plug_more g place stop more ≡ 0 =
      ap (λ plug. g.denominator * plug) (plug_paid place.plugged (if nat_lt 0 more then plug_time g stop.node else 0) plugged) ∙ omega arith in
      record { whole = done.whole; time = omega (arith, done.time, paid, nearer) }

  -- the next stop is at another node
  abbrev arrived : Place → ℕ → Stop
  arrived place slot = record { node = next_node g route place slot; added = 0; via = nat_lt 0 slot }

  follows_from : (place : Place) (slot more : ℕ) (rest : List Stop) → place.passed + 1 < length route →
      route_of rest ≡ drop (passed_after place.passed slot + 1) route → route_of (charged (arrived place slot) more ∷ rest) ≡ drop (place.passed + 1) route
  follows_from place zero more rest within follows =
      let parts : drop (place.passed + 1) route ≡ get_or route (place.passed + 1) 0 ∷ drop (suc (place.passed + 1)) route = drop-cons route (place.passed + 1) 0 within in
      let later : place.passed + 1 + 1 ≡ suc (place.passed + 1) = omega arith in
      let tail : route_of rest ≡ drop (suc (place.passed + 1)) route = follows ∙ ap (λ n. drop n route) later in
      ap (λ ns. get_or route (place.passed + 1) 0 ∷ ns) tail ∙ sym parts
  follows_from place (suc j) more rest within follows =
      let via : nat_lt 0 (suc j) ≡ true = grind (arith, nat_tests) in
      rw via (follows ∙ ap (λ n. drop (n + 1) route) (passed_after-station place.passed j))

  within_route : (passed slot : ℕ) → passed < length route - 1 → passed_after passed slot < length route
  within_route passed zero below = omega arith
  within_route passed (suc j) below = rw (passed_after-station passed j) (omega arith)

  -- a drive is a part of what the vehicle may do
  drive_rest : (place : Place) (stop : Stop) (slot more : ℕ) (rest : List Stop) → IsPlace g route place → CanMove g route (Drive slot) place → stop.node ≡ node_of g route place →
      IsRest g route (place_after g route (Drive slot) place) (arrived place slot) more rest → IsRest g route place stop 0 (charged (arrived place slot) more ∷ rest)
  drive_rest place stop slot more rest is_place can at is =
      let x = next_node g route place slot in
      let energies : energy g stop.node x ≡ energy g (node_of g route place) x = ap (λ n. energy g n x) at in
      let leaving : place.level - energy g (node_of g route place) x + more ≡ place.level + 0 - 1 * energy g stop.node x + (0 + more) = omega (arith, energies) in
      record {
        charge = λ some. absurd (omega (arith, some));
        room = omega (arith, is_place.level);
        ends = is.ends;
        next = (
          λ same. can.1.other (same ∙ at),
          record {
            known = node-known g route (passed_after place.passed slot) slot trip (within_route place.passed slot is_place.passed) can.1.known;
            station = λ why. elim why [
              | inl via ↦ inserted-curve g route (passed_after place.passed slot) slot can.1.known via
              | inr some ↦ (is.charge (omega (arith, some))).1
            ];
          },
          is.next,
        );
        battery = (
          omega (arith, energies, can.1.within, can.1.enough.0),
          omega (arith, leaving, is.room),
          subst (λ (level : ℕ). KeepsBatteryFrom g 1 x level rest) leaving is.battery,
        );
        home = subst (λ (level : ℕ). 1 * g.home_level ≤ level_after g 1 x level rest) leaving is.home;
        follows = follows_from place slot more rest (omega (arith, is_place.passed)) is.follows;
      }

  drive_completes : (place : Place) (stop : Stop) (stops : List Stop) (slot : ℕ) → IsPlace g route place → CanMove g route (Drive slot) place →
      IsWalked g route start entries place stop stops →
      move_time g route (Drive slot) place + time_to_go g entries (place_after g route (Drive slot) place) ≤ time_to_go g entries place → (more : ℕ) (rest : List Stop) →
      IsRest g route (place_after g route (Drive slot) place) (arrived place slot) more rest →
      IsCompleted g route start entries (place_after g route (Drive slot) place) (arrived place slot)
      ((stops ++ stop ∷ []) ++ charged (arrived place slot) more ∷ rest) more rest
  drive_completes place stop stops slot is_place can walked nearer more rest is =
      let x = next_node g route place slot in
      let n = node_of g route place in
      let done = walked.completes 0 (charged (arrived place slot) more ∷ rest) (drive_rest place stop slot more rest is_place can walked.node is) in
      let plans : stops ++ charged stop 0 ∷ charged (arrived place slot) more ∷ rest ≡ (stops ++ stop ∷ []) ++ charged (arrived place slot) more ∷ rest =
      ap (λ (s : Stop). stops ++ s ∷ charged (arrived place slot) more ∷ rest) (charged-nothing stop)
      ∙ sym (append_assoc stops (stop ∷ []) (charged (arrived place slot) more ∷ rest)) in
      let level = place.level - energy g n x in
      let plan = stops ++ charged stop 0 ∷ charged (arrived place slot) more ∷ rest in
      let P : ℕ → ℕ → ℕ → ℕ → ℕ → ℕ → Type 0 = λ plug amount here node before after. time_of g 1 start plan + time_to_go g entries place
      ≤ time_to_go g entries (start_place start) + g.denominator * plug + charging_time 1 g.denominator (curve_at g stop.node) place.level here
      + (1 * (g.denominator * (travel_time g node x + process_time g x + (if nat_lt 0 amount then plug_time g x else 0)))
      + charging_time 1 g.denominator (curve_at g x) before after + time_from g 1 x after rest) in
      let nothing_more : 0 + more ≡ more = omega arith in
      let here : place.level + 0 ≡ place.level = omega arith in
      let energies : energy g stop.node x ≡ energy g n x = ap (λ m. energy g m x) walked.node in
      let before : place.level + 0 - 1 * energy g stop.node x ≡ level = omega (arith, energies) in
      let after : place.level + 0 - 1 * energy g stop.node x + (0 + more) ≡ level + more = omega (arith, energies) in
      let raw : P (plug_more g place stop 0) (0 + more) (place.level + 0) stop.node (place.level + 0 - 1 * energy g stop.node x) (place.level + 0 - 1 * energy g stop.node x + (0 + more)) = done.time in
      let plug = plug_nothing place.plugged (plug_time g stop.node) in
      let time : P 0 more place.level n level (level + more) =
      subst (λ (p : ℕ). P p more place.level n level (level + more)) plug
      (subst (λ (m : ℕ). P (plug_more g place stop 0) m place.level n level (level + more)) nothing_more
      (subst (λ (a : ℕ). P (plug_more g place stop 0) (0 + more) place.level n level a) after
      (subst (λ (b : ℕ). P (plug_more g place stop 0) (0 + more) place.level n b (place.level + 0 - 1 * energy g stop.node x + (0 + more))) before
      (subst (λ (m : ℕ). P (plug_more g place stop 0) (0 + more) place.level m (place.level + 0 - 1 * energy g stop.node x) (place.level + 0 - 1 * energy g stop.node x + (0 + more))) walked.node
      (subst (λ (h : ℕ). P (plug_more g place stop 0) (0 + more) h stop.node (place.level + 0 - 1 * energy g stop.node x) (place.level + 0 - 1 * energy g stop.node x + (0 + more))) here raw))))) in
      let nothing = charging-nothing g.denominator (curve_at g stop.node) place.level in
      record {
        whole = subst (IsWhole g route start) plans done.whole;
        time = rw (← plans) (omega (arith, time, nothing, nearer));
      }

  -- the walk goes on by a move that brings it nearer
  walked_by : (place : Place) (stop : Stop) (stops : List Stop) (step : Move) → IsPlace g route place → CanMove g route step place →
      IsWalked g route start entries place stop stops → IsPlace g route (place_after g route step place) ⊎ IsHome g route (place_after g route step place) →
      (r : Reach) × (entry_at entries (index_of g (place_after g route step place)) ≡ Some r) →
      move_time g route step place + time_to_go g entries (place_after g route step place) ≤ time_to_go g entries place →
      IsWalked g route start entries (place_after g route step place) (stop_after g route step (place_after g route step place) stop) (stops_after step stop stops)
  walked_by place stop stops Charge is can walked on_route held nearer = record {
    on_route = on_route;
    held = held;
    node = walked.node;
    via = walked.via;
    added = omega (arith, walked.added);
    fresh = λ end. absurd (omega (arith, end, is.passed));
    completes = charge_completes place stop stops can walked nearer;
  }
  walked_by place stop stops Unplug is can walked on_route held nearer = record {
    on_route = on_route;
    held = held;
    node = walked.node;
    via = walked.via;
    added = walked.added;
    fresh = walked.fresh;
    completes = unplug_completes place stop stops can walked nearer;
  }
  walked_by place stop stops (Drive slot) is can walked on_route held nearer = record {
    on_route = on_route;
    held = held;
    node = refl;
    via = refl;
    added = omega arith;
    fresh = λ end. refl;
    completes = drive_completes place stop stops slot is can walked nearer;
  }

  -- the walk goes on by the best move
  pub walked-on : (place : Place) (stop next : Stop) (stops longer : List Stop) (offer : Offer) (r : Reach) → IsPlace g route place → IsWalked g route start entries place stop stops →
      IsOffer g route entries place offer → entry_at entries (index_of g place) ≡ Some r → rank offer.reach ≤ rank r →
      next ≡ stop_after g route offer.step offer.to stop → longer ≡ stops_after offer.step stop stops →
      IsWalked g route start entries offer.to next longer
  walked-on place stop next stops longer offer r is walked is_offer holds nearest next_is longer_is =
      let here : rank_at g entries (index_of g place) ≡ rank r = ap (rank_of (scaled_limit g)) holds in
      let ranks = offer-rank g route entries place offer is_offer in
      let nearer : move_time g route offer.step place + time_to_go g entries offer.to ≤ time_to_go g entries place =
      rank-times_back g route entries (index_of g place) (index_of g offer.to) (move_time g route offer.step place) trip table (omega (arith, ranks, here, nearest)) in
      let P : Place → Type 0 = λ to. IsPlace g route to ⊎ IsHome g route to → (r : Reach) × (entry_at entries (index_of g to) ≡ Some r) →
      move_time g route offer.step place + time_to_go g entries to ≤ time_to_go g entries place →
      IsWalked g route start entries to (stop_after g route offer.step to stop) (stops_after offer.step stop stops) in
      let base : P (place_after g route offer.step place) = walked_by place stop stops offer.step is is_offer.can walked in
      let moved : P offer.to = subst P (sym is_offer.leads) base in
      rw (next_is, longer_is) (moved is_offer.on_route (is_offer.rest.0, is_offer.rest.1) nearer)

  -- before the end of the route
  pub on-way : (place : Place) → place.passed < length route - 1 → IsPlace g route place ⊎ IsHome g route place → IsPlace g route place
  on-way place before on_route = elim on_route [
    | inl is ↦ is
    | inr home ↦ absurd (omega (arith, before, home.passed))
  ]

  -- the best move, as an offer that brings the vehicle no farther from home than its entry says
  pub best-offer : (place : Place) (r : Reach) (o : Option Offer) (offer : Offer) → IsPlace g route place → entry_at entries (index_of g place) ≡ Some r →
      o ≡ Some offer → IfSome o (IsOffer g route entries place) → ((step : Move) → IsNoFarther g route entries place step (offer_rank (scaled_limit g) o)) →
      IsOffer g route entries place offer × (rank offer.reach ≤ rank r)
  best-offer place r o offer is holds chosen some least =
      let found = best-move g route entries place r o trip table is holds least in
      let both : Some found.0 ≡ Some offer = sym found.1 ∙ chosen in
      let same : found.0 ≡ offer = cc in
      (subst (λ (x : Option Offer). IfSome x (IsOffer g route entries place)) chosen some, subst (λ (x : Offer). rank x.reach ≤ rank r) same found.2)

  -- each move leads to a cell of lesser rank
  pub rank-falls : (place : Place) (offer : Offer) (r : Reach) → IsOffer g route entries place offer → entry_at entries (index_of g place) ≡ Some r → rank offer.reach ≤ rank r →
      rank_at g entries (index_of g offer.to) < rank_at g entries (index_of g place)
  rank-falls place offer r is holds nearest =
      let here : rank_at g entries (index_of g place) ≡ rank r = ap (rank_of (scaled_limit g)) holds in
      omega (arith, offer-rank g route entries place offer is, here, nearest)

  first_is : get_or route 0 0 ≡ 0
  first_is = ap (λ xs. get_or xs 0 0) trip.is_route.1.ends

  -- at the start nothing may be charged, and all of the route is to come
  start_completes : (more : ℕ) (rest : List Stop) → IsRest g route (start_place start) (record { node = 0; added = 0; via = false }) more rest →
      IsCompleted g route start entries (start_place start) (record { node = 0; added = 0; via = false })
      (charged (record { node = 0; added = 0; via = false }) more ∷ rest) more rest
  start_completes (suc more) rest is = let can = (is.charge (omega arith)).0 in absurd (omega (arith, can))
  start_completes zero [] is =
      let two = route-length g route trip.is_route in
      let none = ap length is.follows ∙ length-drop 1 route in
      absurd (omega (arith, none, two))
  start_completes zero (t ∷ rest) is =
      let two = route-length g route trip.is_route in
      let level : start + 0 ≡ 1 * start = omega arith in
      let parts : drop 0 route ≡ get_or route 0 0 ∷ drop 1 route = drop-cons route 0 0 (omega (arith, two)) in
      let follows : 0 ∷ route_of (t ∷ rest) ≡ route = ap (λ ns. 0 ∷ ns) is.follows ∙ ap (λ n. n ∷ drop 1 route) (sym first_is) ∙ sym parts in
      record {
        whole = record {
          plan = (omega arith, refl, is.ends, is.next);
          battery = (
            subst (λ (l : ℕ). KeepsBatteryFrom g 1 0 l (t ∷ rest)) level is.battery,
            subst (λ (l : ℕ). 1 * g.home_level ≤ level_after g 1 0 l (t ∷ rest)) level is.home,
          );
          follows = follows;
        };
        time =
            let same : time_from g 1 0 (start + 0) (t ∷ rest) ≡ time_from g 1 0 (1 * start) (t ∷ rest) = ap (λ l. time_from g 1 0 l (t ∷ rest)) level in
            omega (arith, same);
      }

  -- a walk that has not begun
  pub walked-start : (place : Place) (r : Reach) → place ≡ start_place start → start ≤ g.capacity → entry_at entries (index_of g place) ≡ Some r →
      IsWalked g route start entries place (record { node = 0; added = 0; via = false }) []
  walked-start place r at low holds =
      let two = route-length g route trip.is_route in
      subst (λ (p : Place). IsWalked g route start entries p (record { node = 0; added = 0; via = false }) []) (sym at) (record {
        on_route = inl (record { passed = omega (arith, two); slot = omega arith; level = low });
        held = (r, subst (λ (p : Place). entry_at entries (index_of g p) ≡ Some r) at holds);
        node = sym first_is;
        via = refl;
        added = omega arith;
        fresh = λ end. refl;
        completes = start_completes;
      })

  last_is : get_or route (length route - 1) 0 ≡ 0
  last_is =
      let inner = trip.is_route.0 in
      let is = trip.is_route.1.ends in
      let count : length route - 1 ≡ length (0 ∷ inner) = omega (arith, ap length is, length-append inner (0 ∷ [])) in
      let at_end : get_or ((0 ∷ inner) ++ 0 ∷ []) (length (0 ∷ inner)) 0 ≡ 0 = get_or_push (0 ∷ inner) 0 0 (length (0 ∷ inner)) refl in
      ap (λ xs. get_or xs (length route - 1) 0) is ∙ ap (λ k. get_or (0 ∷ inner ++ 0 ∷ []) k 0) count ∙ at_end

  -- at the end of the route nothing is left to do
  end_rest : (place : Place) (stop : Stop) (stops : List Stop) → IsHome g route place → IsWalked g route start entries place stop stops → IsRest g route place stop 0 []
  end_rest place stop stops home walked =
      let node : stop.node ≡ 0 = walked.node ∙ ap (λ s. node_at g route place.passed s) home.slot ∙ ap (λ p. get_or route p 0) home.passed ∙ last_is in
      let via : stop.via ≡ false = walked.via ∙ ap (λ s. nat_lt 0 s) home.slot in
      let added : stop.added + 0 ≡ 0 = omega (arith, walked.fresh home.passed) in
      record {
        charge = λ some. absurd (omega (arith, some));
        room = omega (arith, home.level);
        ends = same_stop stop.node (stop.added + 0) stop.via node added via;
        next = tt;
        battery = tt;
        home = omega (arith, home.enough);
        follows = sym (drop_of_length-le route (omega (arith, home.passed)));
      }
    where
      same_stop : (node added : ℕ) (via : Bool) → node ≡ 0 → added ≡ 0 → via ≡ false →
          ◌≡◌ {A = Stop} (record { node = node; added = added; via = via }) (record { node = 0; added = 0; via = false })
      same_stop node added via a b c = cc

  -- the plan of a finished walk
  pub walked-home : (place : Place) (stop : Stop) (stops : List Stop) → length route - 1 ≤ place.passed → IsWalked g route start entries place stop stops →
      IsWhole g route start (stops ++ stop ∷ []) × (time_of g 1 start (stops ++ stop ∷ []) ≤ time_to_go g entries (start_place start))
  walked-home place stop stops end walked = elim walked.on_route [
    | inl on_way ↦ absurd (omega (arith, on_way.passed, end))
    | inr home ↦
        let done = walked.completes 0 [] (end_rest place stop stops home walked) in
        let plans : stops ++ charged stop 0 ∷ [] ≡ stops ++ stop ∷ [] = ap (λ (s : Stop). stops ++ s ∷ []) (charged-nothing stop) in
        let same : place.level + 0 ≡ place.level = omega arith in
        let nothing : charging_time 1 g.denominator (curve_at g stop.node) place.level (place.level + 0) ≡ 0 =
        ap (λ l. charging_time 1 g.denominator (curve_at g stop.node) place.level l) same ∙ charging-nothing g.denominator (curve_at g stop.node) place.level in
        let free : g.denominator * plug_more g place stop 0 ≡ 0 =
        ap (λ plug. g.denominator * plug) (plug_nothing place.plugged (plug_time g stop.node)) ∙ omega arith in
        (subst (IsWhole g route start) plans done.whole, rw (← plans) (omega (arith, done.time, nothing, free)))
  ]

  -- it takes no more time than the entry of the start says
  pub within-cell : (start_at : Place) (r : Reach) (time : ℕ) → start_at ≡ start_place start → entry_at entries (index_of g start_at) ≡ Some r →
      time ≤ time_to_go g entries (start_place start) → time ≤ r.time
  within-cell start_at r time at holds le =
      let here : time_to_go g entries (start_place start) ≡ r.time =
      ap (entry_time (scaled_limit g)) (subst (λ (p : Place). entry_at entries (index_of g p) ≡ Some r) at holds) in
      omega (arith, le, here)

  pub feasible-plan : (start_at : Place) (o : Option Reach) (plan : List Stop) → start_at ≡ start_place start → entry_at entries (index_of g start_at) ≡ o → IsSome o →
      IsWhole g route start plan → time_of g 1 start plan ≤ time_to_go g entries (start_place start) → IsFeasible g 1 start plan
  feasible-plan start_at None plan at holds some whole le = absurd (let both : false ≡ true = some in cc)
  feasible-plan start_at (Some r) plan at holds some whole le = record {
    plan = whole.plan;
    battery = whole.battery;
    in_time = omega (arith, within-cell start_at r (time_of g 1 start plan) at holds le, table.in_time (index_of g start_at) r holds);
  }

  pub plan-time : (start_at : Place) (o : Option Reach) (time : ℕ) → start_at ≡ start_place start → entry_at entries (index_of g start_at) ≡ o →
      time ≤ time_to_go g entries (start_place start) → IfSome o (λ r. time ≤ r.time)
  plan-time start_at None time at holds le = tt
  plan-time start_at (Some r) time at holds le = within-cell start_at r time at holds le
