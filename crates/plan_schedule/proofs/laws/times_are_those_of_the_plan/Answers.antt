use Rattle.plan_schedule.specs.Visits.{visits_of}
use Rattle.plan_schedule.proofs.RouteTimes.{each_is, end_is, parts_are, sum_is}
use Rattle.plan_schedule.proofs.laws.times_are_those_of_the_plan.Goals as goal

pub returns-clause-end : goal.returns-clause-end
returns-clause-end c = end_is

pub returns-clause-each : goal.returns-clause-each
returns-clause-each c g start stops n = each_is g start n stops

pub returns-clause-sum : goal.returns-clause-sum
returns-clause-sum c = sum_is

pub returns-clause-parts : goal.returns-clause-parts
returns-clause-parts c g start stops = parts_are (visits_of g start stops)
