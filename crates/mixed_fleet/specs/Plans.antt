-- Plans that are held.
use Rattle.std.specs.Prelude.{◌≡◌, ℕ, ◌*◌, ◌≤◌, List, None, Option, Some, length, map}
use Rattle.std.specs.List.Sorted.{IsStrictlyIncreasing}
use Rattle.ev_model.specs.Network.{Network}
use Rattle.instance_reader.specs.Instance.{customer_nodes}
use Rattle.mixed_model.specs.Kinds.{first_of}
use Rattle.mixed_model.specs.Meaning.{kind_plans}
use Rattle.mixed_model.specs.Plans.{IsMixedPlan, KindPlan, mixed_cost}
use Rattle.mixed_model.specs.declared.proof.MixedRoute.{MixedRoute}
use Rattle.mixed_model.specs.MixedTexts.{FitsMixedPlan}
use Rattle.set_partitioning.specs.FirstCustomers.{first_customer_of}
use Rattle.mixed_fleet.specs.Own.{AreOwn}

-- the node of the first customer of a route, and 0 where it has none
abbrev pub first_customer : List Network → MixedRoute → ℕ
first_customer kinds r = first_customer_of (first_of kinds) r.plan.stops

-- the scaled cost of a plan, in whole units of charge
abbrev pub cost_of_routes : List Network → List MixedRoute → ℕ
cost_of_routes kinds routes = mixed_cost kinds 1 (kind_plans routes)

abbrev pub cost_held : List Network → Option (List MixedRoute) → Option ℕ
cost_held kinds None = None
cost_held kinds (Some routes) = Some (cost_of_routes kinds routes)

-- a plan of a fleet of these kinds with its routes in rising order of their first customers, which
-- may be written as text
pub record IsHeld (kinds : List Network) (routes : List MixedRoute) : Type 0 where
  pub plan : IsMixedPlan kinds 1 (kind_plans routes)
  pub order : IsStrictlyIncreasing (map (first_customer kinds) routes)
  pub text : FitsMixedPlan (length kinds) (Some routes)

-- a plan is held that costs no more than feasible plans for each customer alone, of whichever
-- kinds, in any fraction of a unit
abbrev pub CostsNoMoreThanOwn : List Network → Option (List MixedRoute) → Type 0
CostsNoMoreThanOwn kinds plan =
    (k : ℕ) (owns : List KindPlan) → AreOwn kinds k (customer_nodes (first_of kinds)) owns →
    (held : List MixedRoute) × (plan ≡ Some held)
    × (k * cost_of_routes kinds held ≤ mixed_cost kinds k owns)
