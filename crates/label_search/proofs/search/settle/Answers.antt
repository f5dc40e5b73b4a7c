use Rattle.std.proofs.Common.{arith}
use Rattle.std.proofs.lemmas.Grind.{common_steps, elements}
use Rattle.label_search.proofs.search.settle.Goals as goal

pub look_home-requires-clause-search : goal.look_home-requires-clause-search
look_home-requires-clause-search = grind (arith, common_steps)

pub loop-node-preserved : goal.loop-node-preserved
loop-node-preserved = grind (arith, elements)
