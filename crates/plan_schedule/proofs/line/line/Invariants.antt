use Rattle.std.proofs.Common.{◌≡◌, ◌++◌, drop}
use Rattle.std.specs.List.{All}
use Rattle.plan_schedule.specs.Levels.{line_of}
use Rattle.plan_schedule.specs.Visits.{IsWithin}
use Rattle.plan_schedule.proofs.line.line.Given as goal

abbrev pub invariant-loop-visit : goal.invariant-loop-visit
invariant-loop-visit l = record {
  told : l.line.items ++ line_of l.inst (drop l.visit-index l.visits) ≡ line_of l.inst l.visits;
  within : All (IsWithin l.inst) (drop l.visit-index l.visits);
}
