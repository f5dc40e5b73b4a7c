use Rattle.route_plan.proofs.PlanLaws.{fleet_plan_is_spelled, plan_is_spelled}
use Rattle.route_plan.proofs.text.laws.texts_spell_plans.Goals as goal

pub returns : goal.returns
returns c = record { plan = plan_is_spelled; fleet = fleet_plan_is_spelled }
