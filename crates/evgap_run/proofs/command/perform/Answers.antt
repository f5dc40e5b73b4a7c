use Rattle.evgap_run.proofs.Performed.{finished, finished_heard, told_so}
use Rattle.evgap_run.specs.Run.{task_of}
use Rattle.gap_words.specs.JobValue.{job_value}
use Rattle.job_ending.proofs.Finished.{spares_finished}
use Rattle.evgap_run.proofs.command.perform.Goals as goal

pub returns-in-Plan-clause-job : goal.returns-in-Plan-clause-job
returns-in-Plan-clause-job g c = finished _ _ c.finish.ensures.words c.finish.ensures.finishes c.in-Plan.is c.plan.ensures

pub returns-in-Check-clause-job : goal.returns-in-Check-clause-job
returns-in-Check-clause-job g c = finished _ _ c.finish-in-Check.ensures.words c.finish-in-Check.ensures.finishes c.in-Check.is c.check.ensures

pub returns-in-Plan-clause-heard : goal.returns-in-Plan-clause-heard
returns-in-Plan-clause-heard g c = finished_heard _ _ c.finish.ensures.finishes c.finish.ensures.heard c.in-Plan.is c.plan.ensures

pub returns-in-Check-clause-heard : goal.returns-in-Check-clause-heard
returns-in-Check-clause-heard g c = finished_heard _ _ c.finish-in-Check.ensures.finishes c.finish-in-Check.ensures.heard c.in-Check.is c.check.ensures

pub returns-in-Plan-clause-spares : goal.returns-in-Plan-clause-spares
returns-in-Plan-clause-spares g c = spares_finished (task_of (job_value c.args.job.now)) c.plan.ensures c.finish.ensures.spares

pub returns-in-Check-clause-spares : goal.returns-in-Check-clause-spares
returns-in-Check-clause-spares g c = spares_finished (task_of (job_value c.args.job.now)) c.check.ensures c.finish-in-Check.ensures.spares

pub returns-in-Tell-clause-job : goal.returns-in-Tell-clause-job
returns-in-Tell-clause-job g c = finished _ _ c.finish-in-Tell.ensures.words c.finish-in-Tell.ensures.finishes c.in-Tell.is (told_so _ _ c.usage.ensures (c.tell.ensures (g.S.Shelf.state c.args.shelf.now)))

pub returns-in-Tell-clause-heard : goal.returns-in-Tell-clause-heard
returns-in-Tell-clause-heard g c = finished_heard _ _ c.finish-in-Tell.ensures.finishes c.finish-in-Tell.ensures.heard c.in-Tell.is (told_so _ _ c.usage.ensures (c.tell.ensures (g.S.Shelf.state c.args.shelf.now)))

pub returns-in-Tell-clause-spares : goal.returns-in-Tell-clause-spares
returns-in-Tell-clause-spares g c = spares_finished (task_of (job_value c.args.job.now)) (told_so _ _ c.usage.ensures (c.tell.ensures (g.S.Shelf.state c.args.shelf.now))) c.finish-in-Tell.ensures.spares

pub finish-requires-in-Tell-clause-answered : goal.finish-requires-in-Tell-clause-answered
finish-requires-in-Tell-clause-answered g c = (c.tell.ensures (g.S.Shelf.state c.args.shelf.now)).answered

pub finish-requires-in-Tell-clause-different : goal.finish-requires-in-Tell-clause-different
finish-requires-in-Tell-clause-different g c = (c.tell.ensures (g.S.Shelf.state c.args.shelf.now)).different
