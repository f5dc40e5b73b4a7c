-- A fleet plan of given routes.
use Rattle.std.specs.Prelude.{◌≡◌, List}
use Rattle.std.specs.List.Sorted.{IsPermutation}
use Rattle.ev_model.specs.Fleet.{cost_of}
use Rattle.ev_model.specs.Network.{Network}
use Rattle.ev_model.specs.declared.Stop.{Stop}
use Rattle.plan_check.specs.FleetRules.{stops_of}
use Rattle.route_plan.specs.declared.plan.FleetPlan.{FleetPlan}
use Rattle.ev_fleet.specs.Plans.{IsHeld, cost_of_fleet}

-- a plan that may be held, whose routes are these in some order
pub record IsPlanOf (g : Network) (plans : List (List Stop)) (plan : FleetPlan) : Type 0 where
  pub held : IsHeld g plan
  pub same : IsPermutation plans (stops_of plan.routes)
  pub cost : cost_of_fleet g plan ≡ cost_of g 1 plans
