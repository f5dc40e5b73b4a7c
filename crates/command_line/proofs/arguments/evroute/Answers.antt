use Rattle.std.proofs.Common.{arith}
use Rattle.command_line.specs.Command.{evroute}
use Rattle.std.proofs.lemmas.Grind.{common_steps}
use Rattle.command_line.proofs.arguments.evroute.Goals as goal

pub returns : goal.returns
unfolding evroute
returns = grind (arith, common_steps)
