use Rattle.std.proofs.Common.{arith}
use Rattle.std.proofs.lemmas.Grind.{common_steps}
use Rattle.command_line.proofs.matches.job_of_command.Goals as goal

pub returns-in-bound : goal.returns-in-bound
returns-in-bound = grind (arith, common_steps)

pub returns-in-make : goal.returns-in-make
returns-in-make = grind (arith, common_steps)

pub returns-in-prove : goal.returns-in-prove
returns-in-prove = grind (arith, common_steps)

pub returns-in-improve : goal.returns-in-improve
returns-in-improve = grind (arith, common_steps)

pub returns-in-text : goal.returns-in-text
returns-in-text = grind (arith, common_steps)

pub returns-in-text-3 : goal.returns-in-text-3
returns-in-text-3 = grind (arith, common_steps)

pub returns-in-mixed : goal.returns-in-mixed
returns-in-mixed = grind (arith, common_steps)

pub returns-in-text-2 : goal.returns-in-text-2
returns-in-text-2 = grind (arith, common_steps)
