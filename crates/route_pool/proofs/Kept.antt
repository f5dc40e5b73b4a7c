-- The places of a pool whose routes keep the pairs.
use Rattle.std.proofs.Common.{◌≡◌, ◌∙◌, ℕ, sym, ap, subst, List, [], ◌∷◌, ◌++◌, map}
use Rattle.customer_sets.specs.Pairs.{allows_of, ForbiddenPairs}
use Rattle.ev_model.specs.Network.{Network}
use Rattle.fleet_model.specs.Pairs.{KeepsPairs}
use Rattle.fleet_model.specs.Places.{place_of}
use Rattle.pricing.specs.declared.priced.PricedRoute.{PricedRoute}
use Rattle.route_plan.specs.declared.plan.RoutePlan.{RoutePlan}
use Rattle.route_pool.specs.Kept.{IsKeptAt}
use Rattle.route_pool.specs.Placed.{IsRouteAt}

module _ (g : Network) (p : ForbiddenPairs) (routes : List PricedRoute) (at : ℕ) (order : List ℕ) (plan : RoutePlan) (is : IsRouteAt routes at order plan) where
  abbrev Keeps : List ℕ → Type 0
  Keeps ns = KeepsPairs (allows_of p) (0 ∷ map (place_of g) ns ++ 0 ∷ [])

  pub kept_at : Keeps order → IsKeptAt g p routes at
  kept_at keeps = record { route = is.route; here = is.here; keeps = subst Keeps (sym is.order_is) keeps }

  pub keeps_at : IsKeptAt g p routes at → Keeps order
  keeps_at kept =
      let same : is.route ≡ kept.route = (let a = is.here in let b = kept.here in cc) in
      subst Keeps (ap (λ (r : PricedRoute). r.order.items) (sym same) ∙ is.order_is) kept.keeps
