use Rattle.std.proofs.Common.{arith}
use Rattle.std.proofs.lemmas.Grind.{common_steps}
use Rattle.instance_reader.proofs.kinds.type_of.Goals as goal

pub returns-in-Some : goal.returns-in-Some
returns-in-Some = grind (arith, common_steps)
