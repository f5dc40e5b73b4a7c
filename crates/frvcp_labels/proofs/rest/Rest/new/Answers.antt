use Rattle.std.proofs.Common.{arith}
use Rattle.std.proofs.lemmas.Grind.{common_steps}
use Rattle.frvcp_labels.proofs.rest.Rest.new.Goals as goal

pub fill-requires-clause-count : goal.fill-requires-clause-count
fill-requires-clause-count = grind (arith, common_steps)

pub returns : goal.returns
returns = grind (arith, common_steps)

pub fill-requires-clause-zero : goal.fill-requires-clause-zero
fill-requires-clause-zero = grind (arith, common_steps)
