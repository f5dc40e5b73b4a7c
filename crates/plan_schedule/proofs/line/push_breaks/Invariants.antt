use Rattle.std.proofs.Common.{◌≡◌, ◌++◌, drop}
use Rattle.plan_schedule.specs.Levels.{bends_at}
use Rattle.plan_schedule.proofs.line.push_breaks.Given as goal

abbrev pub invariant-loop-point : goal.invariant-loop-point
invariant-loop-point l =
    l.line.items ++ bends_at l.inst l.visit (drop l.point-index l.breaks) ≡ l.fn.line.items ++ bends_at l.inst l.visit l.breaks
