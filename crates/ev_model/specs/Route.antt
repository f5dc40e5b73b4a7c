-- Given routes, and the plans that follow one.
use Rattle.std.specs.Prelude.{◌≡◌, ◌≢◌, ℕ, ◌<◌, List, [], ◌∷◌, ◌++◌, filter, map, not}
use Rattle.std.specs.List.{All}
use Rattle.ev_model.specs.Network.{Network, node_count}
use Rattle.ev_model.specs.declared.Stop.{Stop}

-- no node equals the one before it
abbrev pub Moves : List ℕ → Type 0
Moves [] = Unit {0}
Moves (x ∷ []) = Unit {0}
Moves (x ∷ y ∷ ys) = (y ≢ x) × Moves (y ∷ ys)

-- the route from the depot over the inner nodes to the depot
pub record IsRouteOver (g : Network) (route inner : List ℕ) : Type 0 where
  pub ends : route ≡ 0 ∷ inner ++ 0 ∷ []
  pub known : All (λ node. node < node_count g) route
  pub no_depot : All (λ node. node ≢ 0) inner
  pub moves : Moves route

-- a route: it begins and ends at the depot, which does not stand between, and its neighbours differ
abbrev pub IsRoute : Network → List ℕ → Type 0
IsRoute g route = (inner : List ℕ) × IsRouteOver g route inner

-- the nodes of the stops that were not inserted, in order
abbrev pub route_of : List Stop → List ℕ
route_of stops = map (λ s. s.node) (filter (λ s. not s.via) stops)

-- a plan of this route
abbrev pub FollowsRoute : List ℕ → List Stop → Type 0
FollowsRoute route stops = route_of stops ≡ route
