-- The schedule of a plan.
use Rattle.std.specs.Prelude.{ℕ, ◌+◌, ◌^◌, ◌≤◌, List, [], ◌∷◌, drop, take}
use Rattle.ev_model.specs.Network.{Network, scaled_limit}
use Rattle.ev_model.specs.Time.{time_of}
use Rattle.ev_model.specs.declared.Stop.{Stop}
use Rattle.plan_schedule.specs.Levels.{line_of}
use Rattle.plan_schedule.specs.Totals.{AreRouteSums, plan_totals, route_totals}
use Rattle.plan_schedule.specs.Visits.{visits_of}
use Rattle.plan_schedule.specs.declared.schedule.RouteSchedule.{RouteSchedule}
use Rattle.plan_schedule.specs.declared.schedule.Schedule.{Schedule}

-- the schedule of the route with this number, whose vehicle starts with this level
abbrev pub route_schedule : Network → ℕ → ℕ → List Stop → RouteSchedule
route_schedule g start number stops = record {
  number = number;
  visits = visits_of g start stops;
  line = line_of g (visits_of g start stops);
  totals = route_totals (visits_of g start stops);
}

-- the schedules of routes, of which the first has this number
abbrev pub route_schedules : Network → ℕ → ℕ → List (List Stop) → List RouteSchedule
route_schedules g start number [] = []
route_schedules g start number (stops ∷ plans) =
    route_schedule g start number stops ∷ route_schedules g start (number + 1) plans

-- the schedule of a plan of a vehicle a route, each of which starts with this level
abbrev pub schedule_of : Network → ℕ → List (List Stop) → Schedule
schedule_of g start plans = record {
  denominator = g.denominator;
  full = g.capacity;
  reserve = g.reserve;
  home = g.home_level;
  limit = scaled_limit g;
  routes = route_schedules g start 0 plans;
  totals = plan_totals (route_schedules g start 0 plans);
}

-- the scaled times of plans together, where each vehicle starts with this level
abbrev pub times_of : Network → ℕ → List (List Stop) → ℕ
times_of g start [] = 0
times_of g start (stops ∷ plans) = time_of g 1 start stops + times_of g start plans

-- one route alone, beside the totals of the whole plan
abbrev pub only : Schedule → ℕ → Schedule
only s route = record s { routes = take 1 (drop route s.routes) }

-- its denominator is one of an instance
abbrev pub IsTimed : Schedule → Type 0
IsTimed s = (1 ≤ s.denominator) × (s.denominator ≤ 10 ^ 9)

abbrev pub HasSmallTotals : RouteSchedule → Type 0
HasSmallTotals r = AreRouteSums r.totals
