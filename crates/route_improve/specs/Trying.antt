-- A move that is tried: what is asked for it, and what becomes of the routes.
use Rattle.std.specs.Prelude.{◌≡◌, ℕ, ◌<◌, ◌≤◌, Bool, false, true, List, length}
use Rattle.ev_model.specs.Network.{Network}
use Rattle.index_links.specs.Lists.{list_at}
use Rattle.route_improve.specs.Moves.{HasPlace, exchanged, relocated, taken_out}
use Rattle.route_improve.specs.Routes.{AreCheaper, AreNoCheaper, AreRoutes, lists_of}
use Rattle.route_improve.specs.declared.route.Route.{Route}

-- routes, a customer at place i of route a, and a route b
pub record HaveMove (g : Network) (rs : List Route) (a i b : ℕ) : Type 0 where
  pub routes : AreRoutes g rs
  pub from : HasPlace (lists_of rs) a i
  pub to : b < length rs

-- where a move was made the routes cost less, and else they are the same, and what was to be shown
-- is shown of them
pub record AreTried (g : Network) (old new : List Route) (shown : Type 0) (made : Bool) : Type 0 where
  pub cheaper : made ≡ true → AreCheaper g old new
  pub same : made ≡ false → new ≡ old
  pub settled : made ≡ false → shown

-- that relocation isn't cheaper, where there is the place that it goes to
abbrev pub IsNoRelocation : Network → List Route → ℕ → ℕ → ℕ → ℕ → Type 0
IsNoRelocation g routes a i b j = j ≤ length (list_at (taken_out (lists_of routes) a i) b) →
    AreNoCheaper g routes (relocated (lists_of routes) a i b j)

-- that exchange isn't cheaper, where there is a customer at the second place
abbrev pub IsNoExchange : Network → List Route → ℕ → ℕ → ℕ → ℕ → Type 0
IsNoExchange g routes a i b j = j < length (list_at (lists_of routes) b) →
    AreNoCheaper g routes (exchanged (lists_of routes) a i b j)
