-- The first place where each rule of a fleet plan is broken, found by going through the plan.
use Rattle.std.specs.Prelude.{ℕ, ◌+◌, Bool, ◌&&◌, not, List, [], ◌∷◌, Option, None, Some, Result, Ok, Err, nat_lt, if◌then◌else◌}
use Rattle.std.specs.List.{find, list_any}
use Rattle.ev_model.specs.Network.{Network, is_customer}
use Rattle.ev_model.specs.declared.Stop.{Stop}
use Rattle.instance_reader.specs.Instance.{customer_nodes}
use Rattle.route_plan.specs.FirstPlaces.{behind_first, first_before_last, or_later}
use Rattle.route_plan.specs.Walking.{walk_along}
use Rattle.route_plan.specs.declared.plan.RoutePlan.{RoutePlan}
use Rattle.route_plan.specs.declared.walks.Walk.{Walk as WalkEnd}
use Rattle.route_plan.specs.declared.walks.WalkFault.{WalkFault}
use Rattle.plan_check.specs.FleetRules.{times_served}
use Rattle.plan_check.specs.declared.fault.PlanFault.{PlanFault}
use Rattle.plan_check.specs.declared.fault.PlanFault.TheVariants.{Walk, Twice, Unserved, EmptyRoute, Stray}

-- what follows a walk to the end, or the fault of the walk along the route with this index
abbrev pub after_walk : ℕ → Result WalkEnd WalkFault → (WalkEnd → Result ℕ PlanFault) →
    Result ℕ PlanFault
after_walk route (Ok w) next = next w
after_walk route (Err fault) next = Err (Walk route fault)

-- the cost of the routes from this index on, added to `cost`, or the first fault of a walk
abbrev pub cost_from : Network → ℕ → ℕ → List RoutePlan → Result ℕ PlanFault
cost_from g route cost [] = Ok cost
cost_from g route cost (p ∷ ps) =
    after_walk route (walk_along g g.capacity p.stops) (λ w.
    cost_from g (route + 1) (cost + w.time) ps)

-- the first customer that is served more than once
abbrev pub first_twice : Network → List RoutePlan → Option ℕ
first_twice g plans = find (λ node. nat_lt 1 (times_served g plans node)) (customer_nodes g)

-- the first customer that is not served
abbrev pub first_unserved : Network → List RoutePlan → Option ℕ
first_unserved g plans =
    find (λ node. not (nat_lt 0 (times_served g plans node))) (customer_nodes g)

-- a stop serves a customer
abbrev pub serves : Network → Stop → Bool
serves g s = not s.via && is_customer g s.node

-- the first route without a customer, from this index on
abbrev pub first_empty : Network → ℕ → List RoutePlan → Option ℕ
first_empty g route [] = None
first_empty g route (p ∷ ps) =
    if list_any (serves g) p.stops then first_empty g (route + 1) ps else Some route

-- a stop that was not inserted is at no customer
abbrev pub strays : Network → Stop → Bool
strays g s = not s.via && not (is_customer g s.node)

-- the first position of such a stop before the last stop, counted from `at`
abbrev pub first_stray : Network → ℕ → List Stop → Option ℕ
first_stray g at stops = first_before_last (strays g) at stops

-- the first stray stop of the routes from this index on
abbrev pub first_stray_from : Network → ℕ → List RoutePlan → Option PlanFault
first_stray_from g route [] = None
first_stray_from g route (p ∷ ps) =
    or_later (first_stray g 1 (behind_first p.stops)) (λ at.
    Stray route at) (first_stray_from g (route + 1) ps)

abbrev pub or_empty : Network → List RoutePlan → Option PlanFault
or_empty g plans =
    or_later (first_empty g 0 plans) (λ route. EmptyRoute route) (first_stray_from g 0 plans)

abbrev pub or_unserved : Network → List RoutePlan → Option PlanFault
or_unserved g plans =
    or_later (first_unserved g plans) (λ customer. Unserved customer) (or_empty g plans)

-- the first broken rule behind the walks
abbrev pub later_fault : Network → List RoutePlan → Option PlanFault
later_fault g plans =
    or_later (first_twice g plans) (λ customer. Twice customer) (or_unserved g plans)
