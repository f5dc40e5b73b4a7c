use Rattle.std.proofs.Common.{◌∙◌, ap, map, string_bytes}
use Rattle.clap.specs.Walk.{texts}
use Rattle.clap.specs.Words.{matches_of}
use Rattle.call_words.proofs.Refused.{no_job}
use Rattle.gap_words.proofs.NamedJobs.{empty_words}
use Rattle.gap_words.specs.Command.{evgap}
use Rattle.gap_words.specs.Words.{job_in, named}
use Rattle.gap_words.proofs.command_job.Goals as goal

pub returns-in-Ok-None-clause-job : goal.returns-in-Ok-None-clause-job
returns-in-Ok-None-clause-job c =
    no_job evgap (named (map string_bytes c.args.words.now)) (texts c.as_slice.result.now) c.in-Ok-None.field-0
    (job_in (matches_of evgap (named (map string_bytes c.args.words.now))))
    (ap texts c.as_slice.ensures.value ∙ c.in_ok-named.ensures) c.in-Ok-None.field-0-is c.in-Ok-None.ensures

pub returns-then-is_empty-clause-job : goal.returns-then-is_empty-clause-job
returns-then-is_empty-clause-job c = empty_words c.args.words.now c.is_empty.result c.if-is_empty.true c.is_empty.ensures
