use Rattle.job_frame.proofs.AskedFiles.{finds_asked, finds_unasked}
use Rattle.evgap_run.proofs.plan.plan.Goals as goal

pub returns-in-Ok : goal.returns-in-Ok
returns-in-Ok g c = finds_asked c.in-Ok.ensures c.plan_asked.ensures

pub returns-in-Err : goal.returns-in-Err
returns-in-Err g c = finds_unasked c.in-Err.ensures
