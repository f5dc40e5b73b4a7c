use Rattle.std.proofs.Common.{rules, arith}
use Rattle.std.proofs.lemmas.Grind.{common_steps}
use Rattle.command_line.proofs.Counts.{no_improve}
use Rattle.call_words.specs.Matches.{rows_in}
use Rattle.command_line.proofs.improve.improve_job.Goals as goal

pub returns-in_default : goal.returns-in_default
returns-in_default c = no_improve c.args.rest.now (rows_in c.args.matches.now) (search rules)

pub returns : goal.returns
returns = grind (arith, common_steps)

pub returns-in_default-limit_in : goal.returns-in_default-limit_in
returns-in_default-limit_in = grind (arith, common_steps)

pub returns-then-not-gives_only : goal.returns-then-not-gives_only
returns-then-not-gives_only = grind (arith, common_steps)
