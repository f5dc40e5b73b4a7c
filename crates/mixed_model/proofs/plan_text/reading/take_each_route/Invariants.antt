use Rattle.std.proofs.Common.{◌-◌}
use Rattle.mixed_model.proofs.PlanReading.{AreRoutesTo}
use Rattle.mixed_model.proofs.plan_text.reading.take_each_route.Given as goal

abbrev pub invariant-loop : goal.invariant-loop
invariant-loop l = AreRoutesTo l.kinds l.fn.scan l.count l.routes.items (l.count - l.counter) l.scan
