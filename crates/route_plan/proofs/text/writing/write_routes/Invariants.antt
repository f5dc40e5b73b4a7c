use Rattle.std.proofs.Common.{◌≡◌, ◌++◌, drop}
use Rattle.route_plan.specs.PlanTexts.{plan_lines}
use Rattle.route_plan.proofs.text.writing.write_routes.Given as goal

abbrev pub invariant-loop-route : goal.invariant-loop-route
invariant-loop-route l = l.text.items ++ plan_lines (drop l.route-index l.routes) ≡ l.fn.text.items ++ plan_lines l.routes
