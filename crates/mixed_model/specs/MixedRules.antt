-- The rules of a plan of a fleet of several kinds of vehicles, and which of its broken rules is the
-- first. They are those of a fleet plan, and each route is walked in the network of its kind.
use Rattle.std.specs.Prelude.{◌≡◌, ℕ, ◌<◌, Err, List, Some, map, slice_get}
use Rattle.ev_model.specs.Network.{Network}
use Rattle.route_plan.specs.Walking.{walk_along}
use Rattle.route_plan.specs.declared.plan.RoutePlan.{RoutePlan}
use Rattle.route_plan.specs.declared.walks.WalkFault.{WalkFault}
use Rattle.plan_check.specs.FleetRules.{ComesBefore, IsBroken as IsPlainBroken}
use Rattle.plan_check.specs.declared.fault.PlanFault.{PlanFault}
use Rattle.plan_check.specs.declared.fault.PlanFault.TheVariants.{Walk, Twice, Unserved, EmptyRoute, Stray}
use Rattle.mixed_model.specs.Kinds.{first_of, network_of}
use Rattle.mixed_model.specs.Meaning.{kind_plan}
use Rattle.mixed_model.specs.Plans.{IsFeasibleIn}
use Rattle.mixed_model.specs.declared.proof.MixedRoute.{MixedRoute}

-- the routes without their kinds
abbrev pub plain_routes : List MixedRoute → List RoutePlan
plain_routes plan = map (λ r. r.plan) plan

-- the walk along a route, by a vehicle of its kind that starts full, breaks a rule
abbrev pub FailsWalk : List Network → MixedRoute → WalkFault → Type 0
FailsWalk kinds r fault =
    walk_along (network_of kinds r.kind) (network_of kinds r.kind).capacity r.plan.stops ≡ Err fault

-- the fault is a broken rule of the plan; the rules behind the walks ask only which nodes are
-- customers, in which all kinds agree
abbrev pub IsBroken : List Network → List MixedRoute → PlanFault → Type 0
IsBroken kinds plan (Walk route fault) =
    (r : MixedRoute) × (slice_get plan route ≡ Some r) × FailsWalk kinds r fault
IsBroken kinds plan (Twice customer) =
    IsPlainBroken (first_of kinds) (plain_routes plan) (Twice customer)
IsBroken kinds plan (Unserved customer) =
    IsPlainBroken (first_of kinds) (plain_routes plan) (Unserved customer)
IsBroken kinds plan (EmptyRoute route) =
    IsPlainBroken (first_of kinds) (plain_routes plan) (EmptyRoute route)
IsBroken kinds plan (Stray route at) =
    IsPlainBroken (first_of kinds) (plain_routes plan) (Stray route at)

-- the first broken rule of the plan, in the order of the rules of a fleet plan
pub record IsFirstBroken (kinds : List Network) (plan : List MixedRoute)
    (fault : PlanFault) : Type 0 where
  pub broken : IsBroken kinds plan fault
  pub first : (other : PlanFault) → IsBroken kinds plan other → ComesBefore other fault → ⊥

-- the fault is that of the first walk that breaks a rule
pub record IsFirstWalk (kinds : List Network) (plan : List MixedRoute)
    (fault : PlanFault) : Type 0 where
  pub route : ℕ
  pub own : MixedRoute
  pub reason : WalkFault
  pub is : fault ≡ Walk route reason
  pub there : slice_get plan route ≡ Some own
  pub fails : FailsWalk kinds own reason
  pub before : (other : ℕ) (r : MixedRoute) → other < route → slice_get plan other ≡ Some r →
      IsFeasibleIn kinds 1 (kind_plan r)
