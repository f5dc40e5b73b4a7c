use Rattle.std.proofs.Common.{arith}
use Rattle.std.proofs.lemmas.Grind.{elements}
use Rattle.tree_text.proofs.reading.sets.take_member.Goals as goal

pub returns-in_err-member-clause-fault : goal.returns-in_err-member-clause-fault
returns-in_err-member-clause-fault = grind (arith, elements)
