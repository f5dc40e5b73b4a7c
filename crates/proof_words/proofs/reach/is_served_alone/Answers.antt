use Rattle.std.proofs.Common.{arith}
use Rattle.std.proofs.lemmas.Grind.{common_steps}
use Rattle.proof_words.proofs.reach.is_served_alone.Goals as goal

pub solve_route-requires-clause-route : goal.solve_route-requires-clause-route
solve_route-requires-clause-route = grind (arith, common_steps)
