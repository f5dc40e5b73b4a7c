use Rattle.std.proofs.Common.{◌≡◌, ◌≤◌, drop}
use Rattle.plan_check.specs.FirstFaults.{first_stray}
use Rattle.route_plan.specs.FirstPlaces.{behind_first}
use Rattle.plan_check.proofs.later.stray_stop.Given as goal

abbrev pub invariant-loop-at : goal.invariant-loop-at
invariant-loop-at l = (1 ≤ l.at) × (first_stray l.inst l.at (drop l.at l.stops) ≡ first_stray l.inst 1 (behind_first l.stops))
