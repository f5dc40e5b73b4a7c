use Rattle.std.proofs.Common.{arith}
use Rattle.std.proofs.lemmas.Grind.{common_steps}
use Rattle.mixed_model.proofs.plan_text.writing.push_routes.Goals as goal

pub returns-clause-ok : goal.returns-clause-ok
returns-clause-ok = grind (arith, common_steps)
