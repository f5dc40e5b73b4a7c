use Rattle.plan_check.proofs.FleetPlans.{keeping_is_serving}
use Rattle.plan_check.proofs.laws.later_rules_ask_for_each_customer_once.Goals as goal

pub returns : goal.returns
returns c = keeping_is_serving
