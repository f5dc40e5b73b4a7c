-- The rules of a fleet plan, and which of its broken rules is the first.
use Rattle.std.specs.Prelude.{◌≡◌, ℕ, ◌+◌, ◌<◌, ◌⊎◌, List, [], Some, Err, false, true, length, map, slice_get}
use Rattle.ev_model.specs.Fleet.{all_customers, customers_of, times_in}
use Rattle.ev_model.specs.Network.{Network, is_customer, node_count}
use Rattle.ev_model.specs.declared.Stop.{Stop}
use Rattle.route_plan.specs.Walking.{walk_along}
use Rattle.route_plan.specs.declared.plan.RoutePlan.{RoutePlan}
use Rattle.plan_check.specs.declared.fault.PlanFault.{PlanFault}
use Rattle.plan_check.specs.declared.fault.PlanFault.TheVariants.{Walk, Twice, Unserved, EmptyRoute, Stray}

-- the stops of each plan
abbrev pub stops_of : List RoutePlan → List (List Stop)
stops_of plans = map (λ p. p.stops) plans

-- how often a node is served by all plans together
abbrev pub times_served : Network → List RoutePlan → ℕ → ℕ
times_served g plans node = times_in (all_customers g (stops_of plans)) node

-- a node of the network is a customer
abbrev pub IsCustomer : Network → ℕ → Type 0
IsCustomer g node = (node < node_count g) × (is_customer g node ≡ true)

-- a stop that was not inserted, at no customer, between the first stop and the last
pub record IsStray (g : Network) (stops : List Stop) (at : ℕ) : Type 0 where
  pub stop : Stop
  pub there : slice_get stops at ≡ Some stop
  pub behind_first : 0 < at
  pub before_last : at + 1 < length stops
  pub own : stop.via ≡ false
  pub elsewhere : is_customer g stop.node ≡ false

-- the plan with this index
abbrev pub IsRouteAt : List RoutePlan → ℕ → RoutePlan → Type 0
IsRouteAt plans route p = slice_get plans route ≡ Some p

-- the fault is a broken rule of the plans
abbrev pub IsBroken : Network → List RoutePlan → PlanFault → Type 0
IsBroken g plans (Walk route fault) =
    (p : RoutePlan) × IsRouteAt plans route p × (walk_along g g.capacity p.stops ≡ Err fault)
IsBroken g plans (Twice customer) = IsCustomer g customer × (1 < times_served g plans customer)
IsBroken g plans (Unserved customer) = IsCustomer g customer × (times_served g plans customer ≡ 0)
IsBroken g plans (EmptyRoute route) =
    (p : RoutePlan) × IsRouteAt plans route p × (customers_of g p.stops ≡ [])
IsBroken g plans (Stray route at) = (p : RoutePlan) × IsRouteAt plans route p × IsStray g p.stops at

-- the rules in the order in which they are tried
abbrev pub rule_of : PlanFault → ℕ
rule_of (Walk route fault) = 1
rule_of (Twice customer) = 2
rule_of (Unserved customer) = 3
rule_of (EmptyRoute route) = 4
rule_of (Stray route at) = 5

-- the route or the customer that a fault names
abbrev pub subject_of : PlanFault → ℕ
subject_of (Walk route fault) = route
subject_of (Twice customer) = customer
subject_of (Unserved customer) = customer
subject_of (EmptyRoute route) = route
subject_of (Stray route at) = route

-- the position in the route, where a fault names one
abbrev pub position_of : PlanFault → ℕ
position_of (Stray route at) = at
position_of other = 0

-- one fault comes before another: by the rule, then the route or customer, then the position
abbrev pub ComesBefore : PlanFault → PlanFault → Type 0
ComesBefore f h =
    (rule_of f < rule_of h)
    ⊎ ((rule_of f ≡ rule_of h) × (subject_of f < subject_of h))
    ⊎ ((rule_of f ≡ rule_of h) × (subject_of f ≡ subject_of h) × (position_of f < position_of h))

-- the first broken rule of the plans
pub record IsFirstBroken (g : Network) (plans : List RoutePlan) (fault : PlanFault) : Type 0 where
  pub broken : IsBroken g plans fault
  pub first : (other : PlanFault) → IsBroken g plans other → ComesBefore other fault → ⊥
