use Rattle.mixed_model.proofs.Broken.{plan_breaks_none}
use Rattle.mixed_model.proofs.plan_laws.mixed_plans_break_no_rule.Goals as goal

pub returns : goal.returns
returns c = λ kinds plan known. plan_breaks_none kinds plan known
