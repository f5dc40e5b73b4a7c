-- Routes that are joined don't cost more.
use Rattle.std.proofs.Common.{◌≤◌, Bool, false, true, List, refl, subst, sym, arith}
use Rattle.ev_model.specs.Network.{Network}
use Rattle.route_improve.specs.Arranged.{AreOrderly}
use Rattle.route_improve.specs.Going.{IsGoing}
use Rattle.route_improve.specs.Routes.{AreNoDearer, cost_of_routes}
use Rattle.route_improve.specs.declared.route.Route.{Route}

-- routes that were joined, or not
pub going_no_dearer : (g : Network) (initial now : List Route) (made : Bool) → IsGoing g initial now made → AreNoDearer g initial now
going_no_dearer g initial now true is = record {
  routes = is.routes;
  no_more = omega (arith, is.less refl);
}
going_no_dearer g initial now false is = record {
  routes = is.routes;
  no_more = subst (λ (rs : List Route). cost_of_routes rs ≤ cost_of_routes initial) (sym (is.same refl)) (omega arith);
}

-- what was put in order after routes were joined
pub orderly_of : (g : Network) (routes joined better : List Route) → AreNoDearer g routes joined → AreOrderly g joined better → AreOrderly g routes better
orderly_of g routes joined better are is = record {
  routes_are = is.routes_are;
  no_more = omega (arith, is.no_more, are.no_more);
  arranged = is.arranged;
}
