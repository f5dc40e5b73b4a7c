-- Routes that are taken greedily: one after another, each where it meets none that was taken.
use Rattle.std.specs.Prelude.{◌≡◌, ℕ, ◌-◌, ◌^◌, Bool, ◌&&◌, not, false, true, List, [], ◌∷◌, ◌++◌, Option, None, Some, map, nat_eq, if◌then◌else◌}
use Rattle.std.specs.List.Sorted.{IsNonDecreasingBy, IsPermutation}
use Rattle.ev_model.specs.Fleet.{IsFleetPlan, cost_of}
use Rattle.ev_model.specs.Network.{Network}
use Rattle.ev_model.specs.declared.Stop.{Stop}
use Rattle.bound_certificate.specs.declared.certificate.Share.{Share}
use Rattle.plan_check.specs.FleetRules.{stops_of}
use Rattle.route_plan.specs.declared.plan.RoutePlan.{RoutePlan}
use Rattle.ev_fleet.specs.Bounds.{IsAtMost}
use Rattle.ev_fleet.specs.declared.held.Held.{Held}

-- a stop that was not inserted is at the node
abbrev pub visits : ℕ → List Stop → Bool
visits node [] = false
visits node (s ∷ ss) = if not s.via && nat_eq s.node node then true else visits node ss

-- both have a stop at the same node outside the depot, neither of which was inserted
abbrev pub meet : List Stop → List Stop → Bool
meet [] other = false
meet (s ∷ ss) other =
    if not s.via && not (nat_eq s.node 0) && visits s.node other then true else meet ss other

-- some of the routes meets this one
abbrev pub meets_any : List RoutePlan → RoutePlan → Bool
meets_any [] route = false
meets_any (p ∷ ps) route = if meet p.stops route.stops then true else meets_any ps route

-- the routes with one more, unless that meets one of them
abbrev pub with_apart : List RoutePlan → RoutePlan → List RoutePlan
with_apart routes route = if meets_any routes route then routes else routes ++ route ∷ []

-- the routes with further ones, tried one after another
abbrev pub with_all_apart : List RoutePlan → List RoutePlan → List RoutePlan
with_all_apart routes [] = routes
with_all_apart routes (p ∷ ps) = with_all_apart (with_apart routes p) ps

-- by this number shares fall
abbrev pub rank : Share → ℕ
rank x = 2 ^ 64 - 1 - x.share

-- the routes with shares are tried first, those of the greatest shares before the others, and then further ones
pub record AreGreedy (shares : List Share) (others routes : List RoutePlan) : Type 0 where
  pub sorted : List Share
  pub same : IsPermutation shares sorted
  pub order : IsNonDecreasingBy rank sorted
  pub routes_are : routes ≡ with_all_apart (with_all_apart [] (map (λ x. x.plan) sorted)) others

-- the routes of the plan that is held
abbrev pub routes_at : Option Held → List RoutePlan
routes_at None = []
routes_at (Some h) = h.plan.routes

-- where the routes that are taken greedily are a fleet plan, the cost is not above its cost
pub record TakesGreedy (g : Network) (shares : List Share) (others : List RoutePlan)
    (cost : Option ℕ) : Type 0 where
  pub routes : List RoutePlan
  pub greedy : AreGreedy shares others routes
  pub taken : IsFleetPlan g 1 (stops_of routes) →
      IsAtMost cost (Some (cost_of g 1 (stops_of routes)))
