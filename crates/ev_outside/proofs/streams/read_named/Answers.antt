use Rattle.std.proofs.Common.{arith}
use Rattle.std.proofs.lemmas.Grind.{common_steps}
use Rattle.ev_outside.proofs.streams.read_named.Goals as goal

pub returns-in_err-open-clause-prefix : goal.returns-in_err-open-clause-prefix
returns-in_err-open-clause-prefix = grind (arith, common_steps)
