-- The rules of a fleet plan behind the walks, for routes of which no more is told than their stops.
-- These rules ask of the network only which nodes are customers.
use Rattle.std.specs.Prelude.{◌≡◌, ◌≢◌, ℕ, ◌<◌, List, [], ◌∷◌, map, true}
use Rattle.std.specs.List.{All}
use Rattle.ev_model.specs.Fleet.{all_customers, customers_of, ServesOnly, times_in}
use Rattle.ev_model.specs.Network.{is_customer, Network, node_count}
use Rattle.ev_model.specs.Plan.{EndsAtDepot, IsEnd}
use Rattle.ev_model.specs.declared.Stop.{Stop}
use Rattle.route_plan.specs.declared.plan.RoutePlan.{RoutePlan}
use Rattle.plan_check.specs.FleetRules.{ComesBefore, IsBroken, rule_of}
use Rattle.plan_check.specs.declared.fault.PlanFault.{PlanFault}

-- routes as plans, by their stops
abbrev pub plans_by : {R : Type 0} → (R → List Stop) → List R → List RoutePlan
plans_by {R} stops routes = map (λ r. record { stops = stops r }) routes

-- the fault is of a rule behind the walks
abbrev pub IsLater : PlanFault → Type 0
IsLater fault = 1 < rule_of fault

-- no rule behind the walks is broken
abbrev pub KeepsLater : Network → List RoutePlan → Type 0
KeepsLater g plans = (fault : PlanFault) → IsLater fault → IsBroken g plans fault → ⊥

-- the first broken rule behind the walks
pub record IsFirstLater (g : Network) (plans : List RoutePlan) (fault : PlanFault) : Type 0 where
  pub later : IsLater fault
  pub broken : IsBroken g plans fault
  pub first : (other : PlanFault) → IsLater other → IsBroken g plans other →
      ComesBefore other fault → ⊥

-- the first and the last stop are at the depot, as those of every feasible plan are
abbrev pub HasEnds : List Stop → Type 0
HasEnds [] = ⊥
HasEnds (first ∷ stops) = IsEnd first × EndsAtDepot stops

-- what a fleet plan is beside feasible: each plan has a customer and serves customers alone, and
-- over all plans each customer is served exactly once
pub record ServesEachOnce (g : Network) (plans : List (List Stop)) : Type 0 where
  pub some : All (λ stops. customers_of g stops ≢ []) plans
  pub only : All (ServesOnly g) plans
  pub once : (node : ℕ) → node < node_count g → is_customer g node ≡ true →
      times_in (all_customers g plans) node ≡ 1
