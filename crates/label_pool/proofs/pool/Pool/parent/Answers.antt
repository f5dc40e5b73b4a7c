use Rattle.std.proofs.Common.{arith}
use Rattle.std.proofs.lemmas.Grind.{elements}
use Rattle.label_pool.proofs.pool.Pool.parent.Goals as goal

pub returns-clause-lower : goal.returns-clause-lower
returns-clause-lower = grind (arith, elements)
