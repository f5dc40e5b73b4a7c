use Rattle.std.proofs.Common.{arith}
use Rattle.std.proofs.lemmas.Grind.{common_steps}
use Rattle.instance_reader.proofs.instance.Instance.nodes.Goals as goal

pub returns-clause-network : goal.returns-clause-network
returns-clause-network = grind (arith, common_steps)
