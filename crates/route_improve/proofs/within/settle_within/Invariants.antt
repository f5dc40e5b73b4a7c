use Rattle.std.proofs.Common.{◌≡◌, ◌≤◌}
use Rattle.route_improve.specs.Routes.{AreRoutes, cost_of_routes}
use Rattle.route_improve.proofs.within.settle_within.Given as goal

abbrev pub invariant-loop-routes : goal.invariant-loop-routes
invariant-loop-routes g l = record {
  network : l.pricer ≡ l.initial.pricer;
  routes : AreRoutes l.initial.pricer l.routes.items;
  no_more : cost_of_routes l.routes.items ≤ cost_of_routes l.initial.routes.items;
}

abbrev pub decreases-loop-routes : goal.decreases-loop-routes
decreases-loop-routes g l = cost_of_routes l.routes.items
