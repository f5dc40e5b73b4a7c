use Rattle.std.proofs.Common.{arith}
use Rattle.std.proofs.lemmas.Grind.{common_steps}
use Rattle.closed_lists.proofs.paid.is_too_dear.Goals as goal

pub returns : goal.returns
returns = grind (arith, common_steps)
