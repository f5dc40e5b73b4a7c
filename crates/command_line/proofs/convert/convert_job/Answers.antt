use Rattle.std.proofs.Common.{rules, arith}
use Rattle.std.proofs.lemmas.Grind.{common_steps}
use Rattle.command_line.proofs.Counts.{no_convert}
use Rattle.call_words.specs.Matches.{rows_in}
use Rattle.command_line.proofs.convert.convert_job.Goals as goal

pub returns-in_default : goal.returns-in_default
returns-in_default c = no_convert c.args.rest.now (rows_in c.args.matches.now) (search rules)

pub returns : goal.returns
returns = grind (arith, common_steps)
