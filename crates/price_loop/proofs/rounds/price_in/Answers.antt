use Rattle.std.proofs.Common.{arith}
use Rattle.std.proofs.lemmas.Grind.{common_steps}
use Rattle.price_loop.proofs.rounds.price_in.Goals as goal

pub returns-in-Some-clause-master : goal.returns-in-Some-clause-master
returns-in-Some-clause-master = grind (arith, common_steps)

pub solve_master-requires : goal.solve_master-requires
solve_master-requires = grind (arith, common_steps)

pub loop-lp-preserved : goal.loop-lp-preserved
loop-lp-preserved = grind (arith, common_steps)

pub returns-in-Some-clause-answer : goal.returns-in-Some-clause-answer
returns-in-Some-clause-answer = grind (arith, common_steps)

pub returns-in-Some-clause-within : goal.returns-in-Some-clause-within
returns-in-Some-clause-within = grind (arith, common_steps)

pub loop-lp-smaller : goal.loop-lp-smaller
loop-lp-smaller = grind (arith, common_steps)

pub round-requires-clause-small : goal.round-requires-clause-small
round-requires-clause-small = grind (arith, common_steps)

pub returns-in-Some-clause-closed : goal.returns-in-Some-clause-closed
returns-in-Some-clause-closed = grind (arith, common_steps)
