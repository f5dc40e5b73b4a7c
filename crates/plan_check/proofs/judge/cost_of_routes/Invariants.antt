use Rattle.std.proofs.Common.{◌≡◌, ◌≤◌, ◌*◌, ◌^◌, drop}
use Rattle.plan_check.specs.FirstFaults.{cost_from}
use Rattle.plan_check.proofs.judge.cost_of_routes.Given as goal

abbrev pub invariant-loop-route : goal.invariant-loop-route
invariant-loop-route l = record {
  small : l.cost ≤ l.route * 2 ^ 64;
  told : cost_from l.inst l.route l.cost (drop l.route l.routes) ≡ cost_from l.inst 0 0 l.routes;
}
