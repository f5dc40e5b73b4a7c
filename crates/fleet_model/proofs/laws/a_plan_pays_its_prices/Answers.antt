use Rattle.fleet_model.proofs.Plans.{plan_pays}
use Rattle.fleet_model.proofs.laws.a_plan_pays_its_prices.Goals as goal

pub returns : goal.returns
returns c = plan_pays
