use Rattle.std.proofs.Common.{arith}
use Rattle.std.proofs.lemmas.Grind.{common_steps}
use Rattle.instance_reader.proofs.stations.by_node.Goals as goal

pub loop-station-preserved : goal.loop-station-preserved
loop-station-preserved = grind (arith, common_steps)
