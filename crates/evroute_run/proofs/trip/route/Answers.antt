use Rattle.std.proofs.Common.{arith}
use Rattle.std.proofs.lemmas.Grind.{common_steps}
use Rattle.evroute_run.proofs.Task.{short_route}
use Rattle.evroute_run.proofs.trip.route.Goals as goal

pub returns-in-Ok-clause-short : goal.returns-in-Ok-clause-short
returns-in-Ok-clause-short c = short_route c.args.inst.now c.args.word.now c.in-Ok.nodes.items c.in-Ok.ensures.spelled c.in-Ok.ensures.ok

pub returns-in-Err : goal.returns-in-Err
returns-in-Err = grind (arith, common_steps)
