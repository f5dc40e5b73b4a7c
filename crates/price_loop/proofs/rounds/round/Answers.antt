use Rattle.std.proofs.Common.{arith}
use Rattle.std.proofs.lemmas.Grind.{common_steps}
use Rattle.price_loop.proofs.rounds.round.Goals as goal

pub add-requires-clause-route : goal.add-requires-clause-route
add-requires-clause-route = grind (arith, common_steps)

pub returns-clause-still : goal.returns-clause-still
returns-clause-still = grind (arith, common_steps)

pub returns-clause-master : goal.returns-clause-master
returns-clause-master = grind (arith, common_steps)

pub returns-clause-more : goal.returns-clause-more
returns-clause-more = grind (arith, common_steps)
