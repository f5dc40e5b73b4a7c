use Rattle.std.proofs.Common.{take}
use Rattle.std.specs.List.{All}
use Rattle.route_plan.specs.PlanTexts.{IsSmallStop}
use Rattle.certificate_parts.proofs.ranges.plan.are_small.Given as goal

abbrev pub invariant-loop-stop : goal.invariant-loop-stop
invariant-loop-stop l = All (IsSmallStop) (take l.stop-index l.stops)
