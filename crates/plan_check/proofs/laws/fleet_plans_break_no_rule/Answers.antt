use Rattle.plan_check.proofs.FleetPlans.{fleet_plan_keeps, unbroken_is_fleet_plan}
use Rattle.plan_check.proofs.laws.fleet_plans_break_no_rule.Goals as goal

pub returns : goal.returns
returns c g plans = (fleet_plan_keeps g plans, unbroken_is_fleet_plan g plans)
