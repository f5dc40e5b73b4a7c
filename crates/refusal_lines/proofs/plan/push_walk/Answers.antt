use Rattle.std.proofs.Common.{arith}
use Rattle.std.proofs.lemmas.Grind.{common_steps}
use Rattle.refusal_lines.proofs.plan.push_walk.Goals as goal

pub returns-clause-ok : goal.returns-clause-ok
returns-clause-ok = grind (arith, common_steps)

pub returns-clause-err : goal.returns-clause-err
returns-clause-err = grind (arith, common_steps)
