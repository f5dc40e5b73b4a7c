use Rattle.std.proofs.Common.{arith}
use Rattle.std.proofs.lemmas.Grind.{common_steps}
use Rattle.plan_check.proofs.KnownRoutes.{known_at}
use Rattle.plan_check.proofs.later.empty_route.Goals as goal

pub has_customer-requires : goal.has_customer-requires
has_customer-requires g c =
    known_at c.args.inst.now g.R.HasStops.stops_of c.args.routes.now c.loop-route.route c.index-routes-route.result c.stops.result.now c.loop-route-test.true c.index-routes-route.is c.stops.ensures c.requires

pub loop-route-preserved : goal.loop-route-preserved
loop-route-preserved = grind (arith, common_steps)
