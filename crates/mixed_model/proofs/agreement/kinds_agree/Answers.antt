use Rattle.std.proofs.Common.{arith}
use Rattle.std.proofs.lemmas.Grind.{elements}
use Rattle.mixed_model.proofs.agreement.kinds_agree.Goals as goal

pub returns-clause-none : goal.returns-clause-none
returns-clause-none = grind (arith, elements)
