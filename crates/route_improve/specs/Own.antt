-- Routes for customers alone.
use Rattle.std.specs.Prelude.{◌≡◌, ℕ, List, [], ◌∷◌, Option, None, Some}
use Rattle.ev_model.specs.Network.{Network}
use Rattle.order_pricing.specs.Orders.{IsLeastTime}
use Rattle.route_improve.specs.Improved.{HasNoOwn}
use Rattle.route_improve.specs.declared.route.Route.{Route}

-- the route of the customer alone, with its least time
pub record IsOwn (g : Network) (node : ℕ) (r : Route) : Type 0 where
  pub order : r.order.items ≡ node ∷ []
  pub least : IsLeastTime g r.order.items r.time

abbrev pub IsOwnOrAlone : Network → ℕ → Option Route → Type 0
IsOwnOrAlone g node None = HasNoOwn g node
IsOwnOrAlone g node (Some r) = IsOwn g node r

-- such a route for each of the customers, in order
abbrev pub AreOwn : Network → List ℕ → List Route → Type 0
AreOwn g [] [] = Unit {0}
AreOwn g [] (r ∷ routes) = ⊥
AreOwn g (node ∷ nodes) [] = ⊥
AreOwn g (node ∷ nodes) (r ∷ routes) = IsOwn g node r × AreOwn g nodes routes
