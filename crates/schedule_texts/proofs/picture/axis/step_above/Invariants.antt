use Rattle.std.proofs.Common.{◌≡◌, ◌-◌, ◌^◌}
use Rattle.schedule_texts.specs.Axes.{step_above, step_from}
use Rattle.schedule_texts.proofs.picture.axis.step_above.Given as goal

abbrev pub invariant-loop : goal.invariant-loop
invariant-loop l = record {
  same : step_from (20 - l.counter) l.power l.least ≡ step_above l.least;
  power : l.power ≡ 10 ^ l.counter;
}
