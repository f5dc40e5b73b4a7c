use Rattle.std.proofs.Common.{arith}
use Rattle.std.proofs.lemmas.Grind.{common_steps}
use Rattle.mixed_run.proofs.planning.report.Goals as goal

pub returns-clause-text : goal.returns-clause-text
returns-clause-text = grind (arith, common_steps)
