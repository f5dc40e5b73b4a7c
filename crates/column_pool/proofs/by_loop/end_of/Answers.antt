use Rattle.std.proofs.Common.{arith}
use Rattle.std.proofs.lemmas.Grind.{common_steps}
use Rattle.column_pool.proofs.by_loop.end_of.Goals as goal

pub price_out-requires-clause-begin : goal.price_out-requires-clause-begin
price_out-requires-clause-begin = grind (arith, common_steps)
