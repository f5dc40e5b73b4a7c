use Rattle.std.proofs.Common.{arith}
use Rattle.std.proofs.lemmas.Grind.{common_steps}
use Rattle.label_search.proofs.search.force_one.Goals as goal

pub returns-clause-grown : goal.returns-clause-grown
returns-clause-grown = grind (arith, common_steps)

pub settle-requires-clause-search : goal.settle-requires-clause-search
settle-requires-clause-search = grind (arith, common_steps)
