-- What a search by ruin and recreate answers.
use Rattle.std.specs.Prelude.{◌≡◌, ◌≤◌, List, Option, None, Some}
use Rattle.ev_model.specs.Fleet.{cost_of}
use Rattle.ev_model.specs.Network.{Network}
use Rattle.plan_check.specs.FleetRules.{stops_of}
use Rattle.route_improve.specs.Improved.{IsFirstAlone, IsOrderly}
use Rattle.route_improve.specs.declared.improving.Improved.{Improved}
use Rattle.route_improve.specs.declared.improving.Improved.TheVariants.{Plan, Alone}
use Rattle.route_plan.specs.declared.plan.FleetPlan.{FleetPlan}
use Rattle.route_plan.specs.declared.plan.RoutePlan.{RoutePlan}

-- an orderly plan that costs no more than the routes before
pub record IsNoDearer (g : Network) (from : List RoutePlan) (plan : FleetPlan) : Type 0 where
  pub orderly : IsOrderly g plan.routes
  pub no_more : cost_of g 1 (stops_of plan.routes) ≤ cost_of g 1 (stops_of from)

-- an orderly plan, which costs no more than the routes before where there were some; or, where
-- there were none, the first customer without a route of his own
abbrev pub IsRecreated : Network → Option (List RoutePlan) → Improved → Type 0
IsRecreated g (Some from) (Plan plan) = IsNoDearer g from plan
IsRecreated g (Some from) (Alone node) = ⊥
IsRecreated g None (Plan plan) = IsOrderly g plan.routes
IsRecreated g None (Alone node) = IsFirstAlone g node
