use Rattle.std.proofs.Common.{arith}
use Rattle.std.proofs.lemmas.Grind.{common_steps}
use Rattle.plan_writer.proofs.fixed.push_stops.Goals as goal

pub loop-stop-preserved : goal.loop-stop-preserved
loop-stop-preserved = grind (arith, common_steps)

pub returns-clause-ok : goal.returns-clause-ok
returns-clause-ok = grind (arith, common_steps)
