-- Routes in the midst of a pass.
use Rattle.std.specs.Prelude.{◌≡◌, ◌<◌, Bool, false, true, List, length}
use Rattle.ev_model.specs.Network.{Network}
use Rattle.route_improve.specs.Routes.{AreRoutes, cost_of_routes}
use Rattle.route_improve.specs.declared.route.Route.{Route}

-- as many routes as at the beginning of the pass; they cost less where a move was made, and else
-- are the same
pub record IsGoing (g : Network) (initial now : List Route) (made : Bool) : Type 0 where
  pub routes : AreRoutes g now
  pub count : length now ≡ length initial
  pub less : made ≡ true → cost_of_routes now < cost_of_routes initial
  pub same : made ≡ false → now ≡ initial
