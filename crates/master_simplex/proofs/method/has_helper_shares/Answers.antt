use Rattle.std.proofs.Common.{arith}
use Rattle.std.proofs.lemmas.Grind.{common_steps}
use Rattle.master_simplex.proofs.method.has_helper_shares.Goals as goal

pub returns-clause-some : goal.returns-clause-some
returns-clause-some = grind (arith, common_steps)

pub returns-clause-none : goal.returns-clause-none
returns-clause-none = grind (arith, common_steps)
