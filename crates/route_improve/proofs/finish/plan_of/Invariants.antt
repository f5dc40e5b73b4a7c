use Rattle.std.proofs.Common.{take}
use Rattle.route_improve.specs.Arranged.{are_served}
use Rattle.route_improve.specs.Finished.{ArePlansOf}
use Rattle.route_improve.proofs.finish.plan_of.Given as goal

abbrev pub invariant-loop-route : goal.invariant-loop-route
invariant-loop-route l = ArePlansOf l.inst (are_served (take l.route-index l.routes)) l.plans.items
