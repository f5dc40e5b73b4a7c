-- What the end of the search says of the plans of the route.
use Rattle.std.proofs.Common.{◌≡◌, ◌∙◌, ℕ, ◌+◌, ◌*◌, ◌≤◌, List, ap, arith, Option, None, Some}
use Rattle.std.specs.Prelude.{MatchOption, slice_get}
use Rattle.std.proofs.Math.Nat.{mul-le-mul_left}
use Rattle.ev_model.specs.Fastest.{HasNoPlan, IsFastest}
use Rattle.ev_model.specs.Network.{Network, scaled_limit}
use Rattle.ev_model.specs.Time.{time_of}
use Rattle.ev_model.specs.declared.Stop.{Stop}
use Rattle.label_pool.specs.declared.label.Label.{Label}
use Rattle.route_plan.specs.declared.plan.RoutePlan.{RoutePlan}
use Rattle.rounding_law.proofs.Whole.{no_fraction_is_faster, some_kths}
use Rattle.route_steps.specs.Homes.{IsBelowHomes, IsPlanWithin}
use Rattle.route_steps.specs.Trips.{IsTrip, Journey}
use Rattle.route_steps.specs.declared.state.State.{State}
use Rattle.route_steps.proofs.Plans.{plan_bound}
use Rattle.route_steps.proofs.WayHomePlans.{fastest}
use Rattle.frvcp_labels.specs.Answers.{HasNoneBelow, IsFastestBelow, IsHome}

-- a plan within the least time home is a fastest, and below the bar
pub fastest_home : (t : Journey) (labels : List (Label State)) (bar i : ℕ) (stops : List Stop) → IsTrip t.network t.route → IsHome t labels bar i → ((label : Label State) → slice_get labels i ≡ Some label → IsPlanWithin t label.key stops)
    → IsFastestBelow t.network t.route t.start bar stops
fastest_home t labels bar i stops trip home plan =
    let within = (plan home.label home.here).within in
    let below = home.below in
    record {
      fastest = fastest t home.label.key stops trip (λ rest way. let lower = home.least rest way in omega (arith, lower)) (plan home.label home.here);
      below = omega (arith, within, below);
    }

-- where no way home is below a bar no plan is
pub none_below_bar : (t : Journey) (bar : ℕ) → IsTrip t.network t.route → IsBelowHomes t bar → HasNoneBelow t.network t.route t.start bar
none_below_bar t bar trip below k stops feasible follows =
    let whole = no_fraction_is_faster t.network t.route k t.start stops trip.network feasible follows in
    let least = plan_bound t.network t.route t.start bar whole.0 trip.two (λ rest way. let lower = below rest way in omega (arith, lower)) whole.1 whole.2 in
    let scaled : k * bar ≤ k * time_of t.network 1 t.start whole.0 = mul-le-mul_left k least in
    omega (arith, scaled, whole.3)

-- each plan is below what is past the limit
pub none_in_time : (g : Network) (route : List ℕ) (start bar : ℕ) → bar ≡ scaled_limit g + 1 → HasNoneBelow g route start bar → HasNoPlan g route start
none_in_time g route start bar is none k stops feasible follows =
    let some = some_kths g k start stops feasible in
    let late = none k stops feasible follows in
    let in_time = feasible.in_time in
    let scaled : k * bar ≡ k * scaled_limit g + k = ap (λ n. k * n) is ∙ omega arith in
    absurd (omega (arith, some, late, in_time, scaled))

-- so an answer below what is past the limit is one of all plans
pub in_time_answer : (g : Network) (route : List ℕ) (start bar : ℕ) (o : Option RoutePlan) → bar ≡ scaled_limit g + 1 → MatchOption o (HasNoneBelow g route start bar) (λ (plan : RoutePlan). IsFastestBelow g route start bar plan.stops)
    → MatchOption o (HasNoPlan g route start) (λ (plan : RoutePlan). IsFastest g route start plan.stops)
in_time_answer g route start bar None is none = none_in_time g route start bar is none
in_time_answer g route start bar (Some plan) is found = found.fastest
