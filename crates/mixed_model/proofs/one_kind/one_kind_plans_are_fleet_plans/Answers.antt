use Rattle.mixed_model.proofs.OneKind.{plan_cost, plan_from, plan_to}
use Rattle.mixed_model.proofs.one_kind.one_kind_plans_are_fleet_plans.Goals as goal

pub returns-clause-same : goal.returns-clause-same
returns-clause-same c = λ g k plans ones. (plan_to g k plans ones, plan_from g k plans ones)

pub returns-clause-cost : goal.returns-clause-cost
returns-clause-cost c = λ g k plans ones. plan_cost g k plans ones
