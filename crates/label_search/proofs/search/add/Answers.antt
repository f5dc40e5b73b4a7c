use Rattle.std.proofs.Common.{arith}
use Rattle.std.proofs.lemmas.Grind.{common_steps}
use Rattle.label_search.proofs.search.add.Goals as goal

pub returns-clause-search : goal.returns-clause-search
returns-clause-search = grind (arith, common_steps)
