use Rattle.std.proofs.Common.{arith}
use Rattle.std.proofs.lemmas.Grind.{common_steps}
use Rattle.column_pool.proofs.route.copied.Goals as goal

pub timed-requires : goal.timed-requires
timed-requires = grind (arith, common_steps)
