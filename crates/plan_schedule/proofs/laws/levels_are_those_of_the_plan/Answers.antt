use Rattle.plan_schedule.proofs.RouteTimes.{levels_are}
use Rattle.plan_schedule.proofs.laws.levels_are_those_of_the_plan.Goals as goal

pub returns : goal.returns
returns c = levels_are
