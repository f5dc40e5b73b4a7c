use Rattle.std.proofs.Common.{◌∙◌, ap, map, string_bytes, arith}
use Rattle.std.proofs.lemmas.Grind.{common_steps}
use Rattle.clap.specs.Walk.{texts}
use Rattle.call_words.proofs.Refused.{no_job}
use Rattle.clap.specs.Words.{matches_of}
use Rattle.command_line.specs.Command.{evroute}
use Rattle.command_line.specs.Words.{job_in, named}
use Rattle.command_line.proofs.PlainFaults.{empty_words}
use Rattle.command_line.proofs.Promises.{are_jobs}
use Rattle.call_words.specs.Matches.{rows_in}
use Rattle.command_line.proofs.job_words.Goals as goal

pub returns-in-Ok-None-clause-job : goal.returns-in-Ok-None-clause-job
returns-in-Ok-None-clause-job c =
    no_job evroute (named (map string_bytes c.args.words.now)) (texts c.as_slice.result.now) c.in-Ok-None.field-0
    (job_in (matches_of evroute (named (map string_bytes c.args.words.now))))
    (ap texts c.as_slice.ensures.value ∙ c.in_ok-named.ensures) c.in-Ok-None.field-0-is c.in-Ok-None.ensures

pub returns-in-Ok-Some-clause-is : goal.returns-in-Ok-Some-clause-is
returns-in-Ok-Some-clause-is c = are_jobs (rows_in c.in-Ok-Some.matches) c.job_in.result c.job_in.ensures

pub returns-then-is_empty-clause-job : goal.returns-then-is_empty-clause-job
returns-then-is_empty-clause-job c = empty_words c.args.words.now c.is_empty.result c.if-is_empty.true c.is_empty.ensures

pub returns-in-Ok-Some-clause-job : goal.returns-in-Ok-Some-clause-job
returns-in-Ok-Some-clause-job = grind (arith, common_steps)
