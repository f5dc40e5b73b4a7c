use Rattle.std.proofs.Common.{arith}
use Rattle.std.proofs.lemmas.Grind.{common_steps}
use Rattle.ev_fleet.proofs.state.first_search.Goals as goal

pub returns : goal.returns
returns = grind (arith, common_steps)
