use Rattle.std.proofs.Common.{rules, arith}
use Rattle.std.proofs.lemmas.Grind.{common_steps}
use Rattle.command_line.proofs.Counts.{no_bound}
use Rattle.call_words.specs.Matches.{rows_in}
use Rattle.command_line.proofs.bound.bound_job.Goals as goal

pub returns-in_default : goal.returns-in_default
returns-in_default c = no_bound c.args.rest.now (rows_in c.args.matches.now) (search rules)

pub returns : goal.returns
returns = grind (arith, common_steps)

pub returns-then-not-gives_only : goal.returns-then-not-gives_only
returns-then-not-gives_only = grind (arith, common_steps)

pub returns-in_default-2 : goal.returns-in_default-2
returns-in_default-2 = grind (arith, common_steps)
