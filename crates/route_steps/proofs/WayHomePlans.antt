-- What is told of all ways home says of the plans of a route.
use Rattle.std.proofs.Common.{◌≡◌, ℕ, suc, ◌+◌, ◌≤◌, List, [], ◌∷◌, ◌++◌, length, ap, arith}
use Rattle.std.proofs.lemmas.List.{length-append}
use Rattle.ev_model.specs.Fastest.{HasNoPlan, IsFastest}
use Rattle.ev_model.specs.Network.{IsNetwork, Network}
use Rattle.ev_model.specs.Route.{IsRoute}
use Rattle.ev_model.specs.Time.{time_of}
use Rattle.ev_model.specs.declared.Stop.{Stop}
use Rattle.rounding_law.proofs.Whole.{fastest_whole_is_fastest, no_whole_plan_no_plan}
use Rattle.route_steps.specs.Homes.{IsBelowHomes, IsPlanWithin, NoWayHome}
use Rattle.route_steps.specs.Trips.{IsTrip, Journey}
use Rattle.route_steps.proofs.Plans.{plan_bound}

pub is_trip : (g : Network) (route : List ℕ) → IsNetwork g → IsRoute g route → IsTrip g route
is_trip g route network is =
    let all : length route ≡ suc (length (is.0 ++ 0 ∷ [])) = ap length is.1.ends in
    let more : length (is.0 ++ 0 ∷ []) ≡ length is.0 + 1 = length-append is.0 (0 ∷ []) in
    record { network = network; is_route = is; two = omega (arith, all, more) }

-- no way home: no plan
pub no_plan : (t : Journey) → IsTrip t.network t.route → NoWayHome t → HasNoPlan t.network t.route t.start
no_plan t trip none = no_whole_plan_no_plan t.network t.route t.start trip.network (λ stops feasible follows.
    let more : time_of t.network 1 t.start stops + 1 ≤ time_of t.network 1 t.start stops =
    plan_bound t.network t.route t.start (time_of t.network 1 t.start stops + 1) stops trip.two (λ rest is. absurd (none rest is)) feasible follows in
    absurd (omega (arith, more)))

-- a plan within a time that no way home is below is a fastest
pub fastest : (t : Journey) (time : ℕ) (stops : List Stop) → IsTrip t.network t.route → IsBelowHomes t time → IsPlanWithin t time stops → IsFastest t.network t.route t.start stops
fastest t time stops trip below is =
    fastest_whole_is_fastest t.network t.route t.start stops trip.network is.feasible is.follows (λ others feasible follows.
    let least : time ≤ time_of t.network 1 t.start others = plan_bound t.network t.route t.start time others trip.two (λ rest way. let lower = below rest way in omega (arith, lower)) feasible follows in
    let within = is.within in
    omega (arith, least, within))
