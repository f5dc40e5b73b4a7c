-- Plans that a search may answer, and their cost.
use Rattle.std.specs.Prelude.{◌≡◌, ℕ, ◌*◌, ◌≤◌, List, [], ◌∷◌, Option, Some, map, option_map}
use Rattle.std.specs.List.Sorted.{IsStrictlyIncreasing}
use Rattle.ev_model.specs.Feasible.{IsFeasible}
use Rattle.ev_model.specs.Fleet.{IsFleetPlan, cost_of}
use Rattle.ev_model.specs.Network.{Network}
use Rattle.ev_model.specs.Route.{FollowsRoute}
use Rattle.ev_model.specs.declared.Stop.{Stop}
use Rattle.instance_reader.specs.Instance.{customer_nodes}
use Rattle.route_plan.specs.PlanTexts.{FitsFile}
use Rattle.route_plan.specs.declared.plan.FleetPlan.{FleetPlan}
use Rattle.route_plan.specs.declared.plan.RoutePlan.{RoutePlan}
use Rattle.plan_check.specs.FleetRules.{stops_of}
use Rattle.set_partitioning.specs.FirstCustomers.{first_customer_of}

-- the node of the first customer of a route, and 0 where it has none
abbrev pub first_customer : Network → RoutePlan → ℕ
first_customer g p = first_customer_of g p.stops

-- a fleet plan with its routes in rising order of their first customers, which may be written as text
pub record IsHeld (g : Network) (plan : FleetPlan) : Type 0 where
  pub fleet : IsFleetPlan g 1 (stops_of plan.routes)
  pub order : IsStrictlyIncreasing (map (first_customer g) plan.routes)
  pub text : FitsFile (Some plan)

-- the scaled cost of a fleet plan
abbrev pub cost_of_fleet : Network → FleetPlan → ℕ
cost_of_fleet g plan = cost_of g 1 (stops_of plan.routes)

abbrev pub cost_held : Network → Option FleetPlan → Option ℕ
cost_held g plan = option_map (cost_of_fleet g) plan

-- a feasible plan in kths for each of the customers alone, in order
abbrev pub AreOwnRoutes : Network → ℕ → List ℕ → List (List Stop) → Type 0
AreOwnRoutes g k [] [] = Unit {0}
AreOwnRoutes g k [] (stops ∷ plans) = ⊥
AreOwnRoutes g k (node ∷ nodes) [] = ⊥
AreOwnRoutes g k (node ∷ nodes) (stops ∷ plans) =
    IsFeasible g k g.capacity stops × FollowsRoute (0 ∷ node ∷ 0 ∷ []) stops
    × AreOwnRoutes g k nodes plans

-- a plan is held that costs no more than feasible plans for each customer alone, whichever these are, in any fraction of a
-- unit
abbrev pub CostsNoMoreThanOwn : Network → Option FleetPlan → Type 0
CostsNoMoreThanOwn g plan =
    (k : ℕ) (owns : List (List Stop)) → AreOwnRoutes g k (customer_nodes g) owns →
    (p : FleetPlan) × (plan ≡ Some p) × (k * cost_of_fleet g p ≤ cost_of g k owns)
