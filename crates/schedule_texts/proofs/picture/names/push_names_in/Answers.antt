use Rattle.std.proofs.Common.{arith}
use Rattle.std.proofs.lemmas.Grind.{common_steps}
use Rattle.schedule_texts.proofs.picture.names.push_names_in.Goals as goal

pub loop-visit-preserved : goal.loop-visit-preserved
loop-visit-preserved = grind (arith, common_steps)

pub returns : goal.returns
returns = grind (arith, common_steps)
