use Rattle.job_ending.proofs.Told.{told_at}
use Rattle.job_ending.proofs.ending.end_run.Goals as goal

pub returns-clause-told : goal.returns-clause-told
returns-clause-told g c = (
  c.at.result,
  told_at _ _ _ _ _ c.failure_of-failure.result c.at.result c.end_at.ensures.status c.at.ensures.memory c.at.ensures.fault c.at.ensures.none c.failure_of-failure.ensures,
  c.end_at.ensures.told,
)
