-- What is held while a search looks for cheaper plans, and what is made of it in the end.
use Rattle.std.specs.Prelude.{◌≡◌, ◌≤◌, Bool, List, Option, None, Some}
use Rattle.ev_model.specs.Fleet.{IsFleetPlan, cost_of}
use Rattle.ev_model.specs.Network.{Network}
use Rattle.plan_check.specs.FleetRules.{stops_of}
use Rattle.route_improve.specs.Improved.{IsFirstAlone, IsTimedAnswer}
use Rattle.route_improve.specs.declared.improving.Improved.{Improved}
use Rattle.route_improve.specs.declared.improving.Improved.TheVariants.{Plan, Alone}
use Rattle.route_plan.specs.declared.plan.FleetPlan.{FleetPlan}
use Rattle.route_plan.specs.declared.plan.RoutePlan.{RoutePlan}
use Rattle.gap_search.specs.Gap.{IsNoDearer}

-- a fleet plan that is no dearer than the one to begin with; or, where there was none, the first
-- customer without a route of his own
abbrev pub IsBegun : Network → Option (List RoutePlan) → Improved → Type 0
IsBegun g start (Plan plan) =
    IsFleetPlan g 1 (stops_of plan.routes) × IsNoDearer g start (cost_of g 1 (stops_of plan.routes))
IsBegun g start (Alone node) = (start ≡ None) × IsFirstAlone g node

-- a fleet plan that costs no more than the one before
pub record IsPlanAfter (g : Network) (before after : FleetPlan) : Type 0 where
  pub fleet : IsFleetPlan g 1 (stops_of after.routes)
  pub no_more : cost_of g 1 (stops_of after.routes) ≤ cost_of g 1 (stops_of before.routes)

-- such a plan where one was held, and else no plan for the same reason
abbrev pub IsHeldAfter : Network → Improved → Improved → Type 0
IsHeldAfter g (Plan before) (Plan after) = IsPlanAfter g before after
IsHeldAfter g (Plan before) (Alone node) = ⊥
IsHeldAfter g (Alone node) after = after ≡ Alone node

-- a plan that costs no more where one was held; and else a fleet plan, or no plan for the same reason
abbrev pub IsGrownAfter : Network → Improved → Improved → Type 0
IsGrownAfter g (Plan before) (Plan after) = IsPlanAfter g before after
IsGrownAfter g (Plan before) (Alone node) = ⊥
IsGrownAfter g (Alone node) (Plan after) = IsFleetPlan g 1 (stops_of after.routes)
IsGrownAfter g (Alone node) (Alone other) = other ≡ node

-- what moves of single customers answer to such a plan, though a clock may have ended them, and else
-- no plan for the same reason
abbrev pub IsSettledAfter : Network → Bool → Improved → Improved → Type 0
IsSettledAfter g ended (Plan before) after = IsTimedAnswer g ended (Some before.routes) after
IsSettledAfter g ended (Alone node) after = after ≡ Alone node
