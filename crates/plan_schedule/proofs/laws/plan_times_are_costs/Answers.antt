use Rattle.plan_schedule.proofs.RouteTimes.{full_times, times_are}
use Rattle.plan_schedule.proofs.laws.plan_times_are_costs.Goals as goal

pub returns : goal.returns
returns c = record { sum = times_are; full = full_times }
