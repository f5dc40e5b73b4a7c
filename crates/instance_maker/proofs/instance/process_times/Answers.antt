use Rattle.std.proofs.Common.{arith}
use Rattle.std.proofs.lemmas.Grind.{common_steps}
use Rattle.instance_maker.proofs.instance.process_times.Goals as goal

pub returns : goal.returns
returns = grind (arith, common_steps)
