use Rattle.std.proofs.Common.{◌∙◌}
use Rattle.rounding_law.proofs.Shape.{rounded_is_plan, rounded_is_rounded, rounded_keeps_battery, same_plan_route}
use Rattle.rounding_law.proofs.Whole.{some_kths}
use Rattle.rounding_law.proofs.laws.rounded_plans_keep_the_battery.Goals as goal

pub returns-clause-rounded : goal.returns-clause-rounded
returns-clause-rounded c = λ g k j start stops feasible lt. rounded_is_rounded g k j start stops (some_kths g k start stops feasible) lt feasible.battery

pub returns-clause-plan : goal.returns-clause-plan
returns-clause-plan c = λ g k j start stops feasible lt. rounded_is_plan g k j start stops feasible.plan

pub returns-clause-battery : goal.returns-clause-battery
returns-clause-battery c = λ g k j start stops feasible lt. rounded_keeps_battery g k j start stops (some_kths g k start stops feasible) lt feasible.battery

pub returns-clause-route : goal.returns-clause-route
returns-clause-route c = λ g route k j start stops follows. same_plan_route g k j start stops ∙ follows
