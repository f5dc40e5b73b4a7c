use Rattle.command_line.specs.JobValue.{job_value}
use Rattle.evroute_run.proofs.Performed.{finished, finished_heard, value_hears, value_performs, value_spares}
use Rattle.evroute_run.specs.Run.{task_of}
use Rattle.job_ending.proofs.Finished.{spares_finished}
use Rattle.evroute_run.proofs.command.perform.Goals as goal

pub returns-in-Fixed-clause-job : goal.returns-in-Fixed-clause-job
returns-in-Fixed-clause-job g c = finished _ _ c.finish.ensures.words c.finish.ensures.finishes c.in-Fixed.is c.fixed.ensures

pub returns-in-Fleet-clause-job : goal.returns-in-Fleet-clause-job
returns-in-Fleet-clause-job g c = finished _ _ c.finish-in-Fleet.ensures.words c.finish-in-Fleet.ensures.finishes c.in-Fleet.is c.fleet.ensures

pub returns-in-Check-clause-job : goal.returns-in-Check-clause-job
returns-in-Check-clause-job g c = finished _ _ c.finish-in-Check.ensures.words c.finish-in-Check.ensures.finishes c.in-Check.is c.check.ensures

pub returns-in-Convert-clause-job : goal.returns-in-Convert-clause-job
returns-in-Convert-clause-job g c = finished _ _ c.finish-in-Convert.ensures.words c.finish-in-Convert.ensures.finishes c.in-Convert.is c.convert.ensures

pub returns-in-Make-clause-job : goal.returns-in-Make-clause-job
returns-in-Make-clause-job g c = value_performs _ _ c.in-Make.is c.make.ensures.job

pub returns-in-Bound-clause-job : goal.returns-in-Bound-clause-job
returns-in-Bound-clause-job g c = finished _ _ c.finish-in-Bound.ensures.words c.finish-in-Bound.ensures.finishes c.in-Bound.is c.bound.ensures

pub returns-in-CheckBound-clause-job : goal.returns-in-CheckBound-clause-job
returns-in-CheckBound-clause-job g c = finished _ _ c.finish-in-CheckBound.ensures.words c.finish-in-CheckBound.ensures.finishes c.in-CheckBound.is c.check_bound.ensures

pub returns-in-Prove-clause-job : goal.returns-in-Prove-clause-job
returns-in-Prove-clause-job g c = finished _ _ c.finish-in-Prove.ensures.words c.finish-in-Prove.ensures.finishes c.in-Prove.is c.prove.ensures

pub returns-in-CheckRoute-clause-job : goal.returns-in-CheckRoute-clause-job
returns-in-CheckRoute-clause-job g c = finished _ _ c.finish-in-CheckRoute.ensures.words c.finish-in-CheckRoute.ensures.finishes c.in-CheckRoute.is c.check_route.ensures

pub returns-in-Improve-clause-job : goal.returns-in-Improve-clause-job
returns-in-Improve-clause-job g c = finished _ _ c.finish-in-Improve.ensures.words c.finish-in-Improve.ensures.finishes c.in-Improve.is c.improve.ensures

pub returns-in-Mixed-clause-job : goal.returns-in-Mixed-clause-job
returns-in-Mixed-clause-job g c = finished _ _ c.finish-in-Mixed.ensures.words c.finish-in-Mixed.ensures.finishes c.in-Mixed.is c.mixed.ensures

pub returns-in-CheckMixed-clause-job : goal.returns-in-CheckMixed-clause-job
returns-in-CheckMixed-clause-job g c = finished _ _ c.finish-in-CheckMixed.ensures.words c.finish-in-CheckMixed.ensures.finishes c.in-CheckMixed.is c.check_mixed_files.ensures

pub returns-in-Fixed-clause-heard : goal.returns-in-Fixed-clause-heard
returns-in-Fixed-clause-heard g c = finished_heard _ _ c.finish.ensures.finishes c.finish.ensures.heard c.in-Fixed.is c.fixed.ensures

pub returns-in-Fleet-clause-heard : goal.returns-in-Fleet-clause-heard
returns-in-Fleet-clause-heard g c = finished_heard _ _ c.finish-in-Fleet.ensures.finishes c.finish-in-Fleet.ensures.heard c.in-Fleet.is c.fleet.ensures

pub returns-in-Check-clause-heard : goal.returns-in-Check-clause-heard
returns-in-Check-clause-heard g c = finished_heard _ _ c.finish-in-Check.ensures.finishes c.finish-in-Check.ensures.heard c.in-Check.is c.check.ensures

pub returns-in-Convert-clause-heard : goal.returns-in-Convert-clause-heard
returns-in-Convert-clause-heard g c = finished_heard _ _ c.finish-in-Convert.ensures.finishes c.finish-in-Convert.ensures.heard c.in-Convert.is c.convert.ensures

pub returns-in-Bound-clause-heard : goal.returns-in-Bound-clause-heard
returns-in-Bound-clause-heard g c = finished_heard _ _ c.finish-in-Bound.ensures.finishes c.finish-in-Bound.ensures.heard c.in-Bound.is c.bound.ensures

pub returns-in-CheckBound-clause-heard : goal.returns-in-CheckBound-clause-heard
returns-in-CheckBound-clause-heard g c = finished_heard _ _ c.finish-in-CheckBound.ensures.finishes c.finish-in-CheckBound.ensures.heard c.in-CheckBound.is c.check_bound.ensures

pub returns-in-Prove-clause-heard : goal.returns-in-Prove-clause-heard
returns-in-Prove-clause-heard g c = finished_heard _ _ c.finish-in-Prove.ensures.finishes c.finish-in-Prove.ensures.heard c.in-Prove.is c.prove.ensures

pub returns-in-CheckRoute-clause-heard : goal.returns-in-CheckRoute-clause-heard
returns-in-CheckRoute-clause-heard g c = finished_heard _ _ c.finish-in-CheckRoute.ensures.finishes c.finish-in-CheckRoute.ensures.heard c.in-CheckRoute.is c.check_route.ensures

pub returns-in-Improve-clause-heard : goal.returns-in-Improve-clause-heard
returns-in-Improve-clause-heard g c = finished_heard _ _ c.finish-in-Improve.ensures.finishes c.finish-in-Improve.ensures.heard c.in-Improve.is c.improve.ensures

pub returns-in-Mixed-clause-heard : goal.returns-in-Mixed-clause-heard
returns-in-Mixed-clause-heard g c = finished_heard _ _ c.finish-in-Mixed.ensures.finishes c.finish-in-Mixed.ensures.heard c.in-Mixed.is c.mixed.ensures

pub returns-in-CheckMixed-clause-heard : goal.returns-in-CheckMixed-clause-heard
returns-in-CheckMixed-clause-heard g c = finished_heard _ _ c.finish-in-CheckMixed.ensures.finishes c.finish-in-CheckMixed.ensures.heard c.in-CheckMixed.is c.check_mixed_files.ensures

pub returns-in-Make-clause-heard : goal.returns-in-Make-clause-heard
returns-in-Make-clause-heard g c = value_hears _ _ c.in-Make.is c.make.ensures.heard

pub returns-in-Fixed-clause-spares : goal.returns-in-Fixed-clause-spares
returns-in-Fixed-clause-spares g c = spares_finished (task_of (job_value c.args.job.now)) c.fixed.ensures c.finish.ensures.spares

pub returns-in-Fleet-clause-spares : goal.returns-in-Fleet-clause-spares
returns-in-Fleet-clause-spares g c = spares_finished (task_of (job_value c.args.job.now)) c.fleet.ensures c.finish-in-Fleet.ensures.spares

pub returns-in-Check-clause-spares : goal.returns-in-Check-clause-spares
returns-in-Check-clause-spares g c = spares_finished (task_of (job_value c.args.job.now)) c.check.ensures c.finish-in-Check.ensures.spares

pub returns-in-Convert-clause-spares : goal.returns-in-Convert-clause-spares
returns-in-Convert-clause-spares g c = spares_finished (task_of (job_value c.args.job.now)) c.convert.ensures c.finish-in-Convert.ensures.spares

pub returns-in-Bound-clause-spares : goal.returns-in-Bound-clause-spares
returns-in-Bound-clause-spares g c = spares_finished (task_of (job_value c.args.job.now)) c.bound.ensures c.finish-in-Bound.ensures.spares

pub returns-in-CheckBound-clause-spares : goal.returns-in-CheckBound-clause-spares
returns-in-CheckBound-clause-spares g c = spares_finished (task_of (job_value c.args.job.now)) c.check_bound.ensures c.finish-in-CheckBound.ensures.spares

pub returns-in-Prove-clause-spares : goal.returns-in-Prove-clause-spares
returns-in-Prove-clause-spares g c = spares_finished (task_of (job_value c.args.job.now)) c.prove.ensures c.finish-in-Prove.ensures.spares

pub returns-in-CheckRoute-clause-spares : goal.returns-in-CheckRoute-clause-spares
returns-in-CheckRoute-clause-spares g c = spares_finished (task_of (job_value c.args.job.now)) c.check_route.ensures c.finish-in-CheckRoute.ensures.spares

pub returns-in-Improve-clause-spares : goal.returns-in-Improve-clause-spares
returns-in-Improve-clause-spares g c = spares_finished (task_of (job_value c.args.job.now)) c.improve.ensures c.finish-in-Improve.ensures.spares

pub returns-in-Mixed-clause-spares : goal.returns-in-Mixed-clause-spares
returns-in-Mixed-clause-spares g c = spares_finished (task_of (job_value c.args.job.now)) c.mixed.ensures c.finish-in-Mixed.ensures.spares

pub returns-in-CheckMixed-clause-spares : goal.returns-in-CheckMixed-clause-spares
returns-in-CheckMixed-clause-spares g c = spares_finished (task_of (job_value c.args.job.now)) c.check_mixed_files.ensures c.finish-in-CheckMixed.ensures.spares

pub returns-in-Make-clause-spares : goal.returns-in-Make-clause-spares
returns-in-Make-clause-spares g c = value_spares _ _ c.in-Make.is c.make.ensures.spares
