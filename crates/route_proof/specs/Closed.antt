-- What shows that no vehicle comes home along a route below a bar: the labels cover the start, and
-- whatever one step leads to below the bar, and no step home ends below it.
use Rattle.std.specs.Prelude.{◌≡◌, ℕ, ◌+◌, ◌-◌, ◌<◌, ◌≤◌, List, Option, None, Some, length}
use Rattle.std.specs.List.{Contains}
use Rattle.ev_model.specs.Fastest.{HasNoPlan, IsFastest}
use Rattle.ev_model.specs.Feasible.{IsFeasible}
use Rattle.ev_model.specs.Network.{scaled_limit}
use Rattle.ev_model.specs.Route.{FollowsRoute}
use Rattle.ev_model.specs.Time.{time_of}
use Rattle.ev_model.specs.declared.Stop.{Stop}
use Rattle.dominance.specs.LevelTimes.{IsLevel}
use Rattle.piece_fn.specs.PieceFn.{level_times}
use Rattle.route_plan.specs.declared.plan.RoutePlan.{RoutePlan}
use Rattle.route_steps.specs.Trips.{Journey}
use Rattle.route_steps.specs.Ways.{MayStop, begin, leaving_after}
use Rattle.route_proof.specs.Covered.{IsCovered, vehicle_at}
use Rattle.route_proof.specs.declared.proof.RouteLabel.{RouteLabel}
use Rattle.route_proof.specs.declared.proof.RouteProof.{RouteProof}

-- a step from one of the labels with one of its levels, by a stop that may be the next
pub record IsStepFrom (t : Journey) (l : RouteLabel) (level : ℕ) (stop : Stop) : Type 0 where
  pub level_is : IsLevel (level_times l.value) level
  pub may : MayStop t.network t.route (vehicle_at l level) stop

-- the vehicle has come to the end of the route, or not yet
abbrev pub IsHome : Journey → ℕ → Type 0
IsHome t passed = passed ≡ length t.route - 1

abbrev pub IsOnWay : Journey → ℕ → Type 0
IsOnWay t passed = passed < length t.route - 1

pub record AreClosed (t : Journey) (bar : ℕ) (labels : List RouteLabel) : Type 0 where
  pub begins : 0 < bar → IsCovered labels (begin t.start)
  pub step : (l : RouteLabel) (level : ℕ) (stop : Stop) → Contains labels l →
      IsStepFrom t l level stop →
      IsOnWay t (leaving_after t.network (vehicle_at l level) stop).passed →
      (leaving_after t.network (vehicle_at l level) stop).time < bar →
      IsCovered labels (leaving_after t.network (vehicle_at l level) stop)
  pub home : (l : RouteLabel) (level : ℕ) (stop : Stop) → Contains labels l →
      IsStepFrom t l level stop →
      IsHome t (leaving_after t.network (vehicle_at l level) stop).passed →
      bar ≤ (leaving_after t.network (vehicle_at l level) stop).time

-- the time of the plan, and without one a time past the limit
abbrev pub bar : Journey → Option RoutePlan → ℕ
bar t None = scaled_limit t.network + 1
bar t (Some plan) = time_of t.network 1 t.start plan.stops

-- the plan, if there is one, is a feasible one of the route
abbrev pub HasGoodPlan : Journey → Option RoutePlan → Type 0
HasGoodPlan t None = Unit {0}
HasGoodPlan t (Some plan) =
    IsFeasible t.network 1 t.start plan.stops × FollowsRoute t.route plan.stops

pub record IsAccepted (t : Journey) (p : RouteProof) : Type 0 where
  pub plan : HasGoodPlan t p.plan
  pub closed : AreClosed t (bar t p.plan) p.labels

-- what a proof is to show: the plan is a fastest one, or no plan of the route is feasible, in any
-- fraction of a unit
abbrev pub IsTrue : Journey → Option RoutePlan → Type 0
IsTrue t None = HasNoPlan t.network t.route t.start
IsTrue t (Some plan) = IsFastest t.network t.route t.start plan.stops
