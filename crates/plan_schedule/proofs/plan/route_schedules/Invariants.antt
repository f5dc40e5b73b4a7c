use Rattle.std.proofs.Common.{◌≡◌, ◌++◌, drop}
use Rattle.std.specs.List.{All}
use Rattle.ev_model.specs.Feasible.{IsFeasible}
use Rattle.plan_check.specs.FleetRules.{stops_of}
use Rattle.plan_schedule.specs.Schedules.{HasSmallTotals, route_schedules}
use Rattle.plan_schedule.proofs.plan.route_schedules.Given as goal

abbrev pub invariant-loop-number : goal.invariant-loop-number
invariant-loop-number l = record {
  told : l.routes.items ++ route_schedules l.inst l.start l.number (stops_of (drop l.number l.plans)) ≡ route_schedules l.inst l.start 0 (stops_of l.plans);
  feasible : All (IsFeasible l.inst 1 l.start) (stops_of (drop l.number l.plans));
  small : All HasSmallTotals l.routes.items;
}
