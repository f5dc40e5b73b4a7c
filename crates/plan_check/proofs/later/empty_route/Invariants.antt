use Rattle.std.proofs.Common.{◌≡◌, drop}
use Rattle.plan_check.specs.FirstFaults.{first_empty}
use Rattle.plan_check.specs.LaterRules.{plans_by}
use Rattle.plan_check.proofs.later.empty_route.Given as goal

abbrev pub invariant-loop-route : goal.invariant-loop-route
invariant-loop-route g l =
    first_empty l.inst l.route (plans_by g.R.HasStops.stops_of (drop l.route l.routes)) ≡ first_empty l.inst 0 (plans_by g.R.HasStops.stops_of l.routes)
