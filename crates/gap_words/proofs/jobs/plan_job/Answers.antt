use Rattle.std.proofs.Common.{rules}
use Rattle.call_words.specs.Matches.{rows_in}
use Rattle.gap_words.proofs.NamedJobs.{no_plan}
use Rattle.gap_words.proofs.jobs.plan_job.Goals as goal

pub returns-in_default-clause-job : goal.returns-in_default-clause-job
returns-in_default-clause-job c = no_plan c.args.rest.now (rows_in c.args.matches.now) (search rules)
