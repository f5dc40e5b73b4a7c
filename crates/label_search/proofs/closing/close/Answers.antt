use Rattle.std.proofs.Common.{arith}
use Rattle.std.proofs.lemmas.Grind.{common_steps, elements}
use Rattle.label_search.proofs.closing.close.Goals as goal

pub returns-in_default : goal.returns-in_default
returns-in_default = grind (arith, elements)

pub routes_of-requires : goal.routes_of-requires
routes_of-requires = grind (arith, elements)

pub first_fault-requires : goal.first_fault-requires
first_fault-requires = grind (arith, common_steps)

pub mend-requires-clause-copies : goal.mend-requires-clause-copies
mend-requires-clause-copies = grind (arith, common_steps)
