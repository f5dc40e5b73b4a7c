-- The routes of a pool that keep a node's pairs, by their places.
use Rattle.std.specs.Prelude.{◌≡◌, ℕ, List, [], ◌∷◌, ◌++◌, Some, map, slice_get}
use Rattle.customer_sets.specs.Pairs.{allows_of, ForbiddenPairs}
use Rattle.ev_model.specs.Network.{Network}
use Rattle.fleet_model.specs.Pairs.{KeepsPairs}
use Rattle.fleet_model.specs.Places.{place_of}
use Rattle.pricing.specs.declared.priced.PricedRoute.{PricedRoute}

-- there is a route at the place, and it keeps the pairs
pub record IsKeptAt (g : Network) (p : ForbiddenPairs) (routes : List PricedRoute)
    (at : ℕ) : Type 0 where
  pub route : PricedRoute
  pub here : slice_get routes at ≡ Some route
  pub keeps : KeepsPairs (allows_of p)
      (0 ∷ map (place_of g) route.order.items ++ 0 ∷ [])
