use Rattle.mixed_model.proofs.TextLaws.{plan_is_spelled}
use Rattle.mixed_model.proofs.plan_text.laws.texts_spell_mixed_plans.Goals as goal

pub returns : goal.returns
returns c = λ kinds bytes plan some few. plan_is_spelled kinds some few bytes plan
