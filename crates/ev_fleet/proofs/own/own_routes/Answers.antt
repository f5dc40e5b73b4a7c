use Rattle.std.proofs.Common.{arith}
use Rattle.std.proofs.lemmas.Grind.{common_steps}
use Rattle.ev_fleet.proofs.own.own_routes.Goals as goal

pub returns-clause-own : goal.returns-clause-own
returns-clause-own = grind (arith, common_steps)
