use Rattle.std.proofs.Common.{arith}
use Rattle.std.proofs.lemmas.Grind.{elements}
use Rattle.label_pool.proofs.pool.Pool.is_live.Goals as goal

pub returns : goal.returns
returns = grind (arith, elements)
