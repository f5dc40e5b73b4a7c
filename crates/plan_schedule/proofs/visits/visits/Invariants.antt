use Rattle.std.proofs.Common.{◌≡◌, ◌++◌, ◌≤◌, drop}
use Rattle.std.specs.List.{All}
use Rattle.plan_schedule.specs.Visits.{IsWithin, visits_behind, visits_of}
use Rattle.plan_schedule.proofs.GoesOn.{GoesOn}
use Rattle.plan_schedule.proofs.visits.visits.Given as goal

-- the visits so far, and those behind them, are all
abbrev pub invariant-loop-at : goal.invariant-loop-at
invariant-loop-at l = record {
  some : 1 ≤ l.at;
  told : l.visits.items ++ visits_behind l.inst l.before (drop l.at l.stops) ≡ visits_of l.inst l.start l.stops;
  goes : GoesOn l.inst l.before (drop l.at l.stops);
  within : All (IsWithin l.inst) l.visits.items;
}
