use Rattle.std.proofs.Common.{◌-◌}
use Rattle.route_plan.proofs.PlanLoops.{AreRoutesTo}
use Rattle.route_plan.proofs.text.reading.take_routes.Given as goal

abbrev pub invariant-loop : goal.invariant-loop
invariant-loop l = AreRoutesTo l.fn.scan l.count l.routes.items (l.count - l.counter) l.scan
